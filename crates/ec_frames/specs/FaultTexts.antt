-- What a fault is printed as: its code, its name, and the number that it carries.
use Rattle.std.specs.Prelude.{ℕ, List, ◌++◌, codes}
use Rattle.std.specs.Fmt.{decimal}
use Rattle.ec_frames.specs.declared.writing.BuildFault.{BuildFault}
use Rattle.ec_frames.specs.declared.writing.BuildFault.TheVariants as build
use Rattle.ec_frames.specs.declared.reading.FrameFault.{FrameFault}
use Rattle.ec_frames.specs.declared.reading.FrameFault.TheVariants as frame

abbrev pub build_fault_text : BuildFault → List ℕ
build_fault_text build.NoDatagram = codes "F1 NoDatagram"
build_fault_text build.DataLength = codes "F2 DataLength"
build_fault_text build.FrameFull = codes "F3 FrameFull"

abbrev pub frame_fault_text : FrameFault → List ℕ
frame_fault_text frame.Short = codes "F4 Short"
frame_fault_text frame.NotEtherCat = codes "F5 NotEtherCat"
frame_fault_text (frame.FrameType kind) = codes "F6 FrameType " ++ decimal kind
frame_fault_text frame.Length = codes "F7 Length"
frame_fault_text (frame.UnknownCommand code) = codes "F8 UnknownCommand " ++ decimal code
frame_fault_text frame.DataPastEnd = codes "F9 DataPastEnd"
frame_fault_text frame.MoreAtEnd = codes "F10 MoreAtEnd"
frame_fault_text frame.RestAfterLast = codes "F11 RestAfterLast"
