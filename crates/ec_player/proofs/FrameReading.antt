-- What `parse` answers is what the frame is read as.
use Rattle.std.proofs.Common.{◌≡◌, ◌↔◌, ℕ, List, Result, Ok, Err, refl, sym}
use Rattle.ec_frames.specs.declared.reading.FrameFault.{FrameFault}
use Rattle.ec_frames.specs.Reading.{Entry, ReadsAs, HasFault}
use Rattle.ec_frames.specs.Parsing.{frame_read}
use Rattle.ec_frames.proofs.ReadingFrames.{read_is, fault_is}

pub reading_is : (frame : List ℕ) (r : Result (List Entry) FrameFault) → ((ds : List Entry) → (r ≡ Ok ds) ↔ ReadsAs frame ds) → ((f : FrameFault) → (r ≡ Err f) ↔ HasFault f frame) → r ≡ frame_read frame
reading_is frame (Ok ds) ok err = sym ((read_is frame ds).1 ((ok ds).0 refl))
reading_is frame (Err f) ok err = sym ((fault_is frame f).1 ((err f).0 refl))
