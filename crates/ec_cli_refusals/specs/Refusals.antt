-- The lines that refuse, and their statuses.
use Rattle.std.specs.Prelude.{◌≡◌, ◌⊎◌, ℕ, ◌<◌, ◌≤◌, List, length, ◌++◌, codes, Err}
use Rattle.std.specs.Fmt.{decimal}
use Rattle.ec_unit_text.specs.declared.fault.UnitFault.{UnitFault}
use Rattle.ec_unit_text.specs.declared.fault.UnitFault.TheVariants as fault
use Rattle.ec_unit_text.specs.FaultText.{key_text, spot_text}
use Rattle.ec_unit_text.specs.Reading.{reading}
use Rattle.ec_loads.specs.declared.plan.Illegal.{Illegal}
use Rattle.ec_loads.specs.declared.plan.Illegal.TheVariants as illegal
use Rattle.ec_cert_text.specs.declared.fault.CertFault.{CertFault}
use Rattle.ec_cert_text.specs.declared.fault.CertFault.TheVariants as cert
use Rattle.ec_checker.specs.declared.fault.CheckFault.{CheckFault}
use Rattle.ec_checker.specs.declared.fault.CheckFault.TheVariants as check
use Rattle.ec_outcome.specs.declared.search.SolveFault.{SolveFault}
use Rattle.ec_outcome.specs.declared.search.SolveFault.TheVariants as solve
use Rattle.ec_frames.specs.FaultTexts.{frame_fault_text}
use Rattle.ec_outcome.specs.declared.play.PlayFault.{PlayFault}
use Rattle.ec_outcome.specs.declared.play.PlayFault.TheVariants as play
use Rattle.ec_cli_refusals.specs.declared.refusal.Refusal.{Refusal}
use Rattle.ec_cli_refusals.specs.declared.refusal.Refusal.TheVariants as refusal
use Rattle.ec_cli_command.specs.declared.job.Job.{Job}
use Rattle.ec_cli_command.specs.declared.job.Job.TheVariants as job

-- a fault of a unit text: its code, its name and its fields
abbrev pub fault_text : UnitFault → List ℕ
fault_text fault.OutOfMemory = codes "U1 OutOfMemory"
fault_text fault.NotToml = codes "U2 NotToml"
fault_text (fault.Missing s k) = codes "U3 Missing " ++ (spot_text s ++ (codes " " ++ key_text k))
fault_text (fault.WrongType s k) = codes "U4 WrongType " ++ (spot_text s ++ (codes " " ++ key_text k))
fault_text (fault.UnknownKey s) = codes "U5 UnknownKey " ++ spot_text s
fault_text fault.NoUnits = codes "U6 NoUnits"
fault_text fault.TooManyUnits = codes "U7 TooManyUnits"
fault_text (fault.BadName s) = codes "U8 BadName " ++ spot_text s
fault_text (fault.DuplicateName s) = codes "U9 DuplicateName " ++ spot_text s
fault_text (fault.PeriodRange s) = codes "U10 PeriodRange " ++ spot_text s
fault_text (fault.SlaveCount s) = codes "U11 SlaveCount " ++ spot_text s
fault_text (fault.SlaveBytes s) = codes "U12 SlaveBytes " ++ spot_text s
fault_text (fault.UnitTooBig s) = codes "U13 UnitTooBig " ++ spot_text s
fault_text (fault.StationRange s) = codes "U14 StationRange " ++ spot_text s
fault_text (fault.DuplicateStation s) = codes "U15 DuplicateStation " ++ spot_text s
fault_text (fault.AreaRange s) = codes "U16 AreaRange " ++ spot_text s
fault_text fault.HyperTooLong = codes "U17 HyperTooLong"
fault_text fault.SlotsRange = codes "U18 SlotsRange"
fault_text fault.TickRange = codes "U19 TickRange"
fault_text (fault.PlaceRange s) = codes "U20 PlaceRange " ++ spot_text s
fault_text (fault.PlaceHalf s) = codes "U21 PlaceHalf " ++ spot_text s

-- why a plan is not legal
abbrev pub illegal_text : Illegal → List ℕ
illegal_text illegal.WrongCount = codes "I1 WrongCount"
illegal_text (illegal.PhaseRange u) = codes "I2 PhaseRange " ++ decimal u
illegal_text (illegal.SlotRange u) = codes "I3 SlotRange " ++ decimal u
illegal_text (illegal.Full t s b) = codes "I4 Full " ++ (decimal t ++ (codes " " ++ (decimal s ++ (codes " " ++ decimal b))))

-- a fault of a certificate's text, with the line that it is on
abbrev pub cert_text : CertFault → List ℕ
cert_text cert.OutOfMemory = codes "C1 OutOfMemory"
cert_text cert.NotText = codes "C2 NotText"
cert_text cert.Version = codes "C3 Version"
cert_text (cert.BadLine n) = codes "C4 BadLine " ++ decimal n
cert_text (cert.Number n) = codes "C5 Number " ++ decimal n
cert_text (cert.Early n) = codes "C6 Early " ++ decimal n
cert_text (cert.Late n) = codes "C7 Late " ++ decimal n
cert_text (cert.TooDeep n) = codes "C8 TooDeep " ++ decimal n
cert_text cert.TooLarge = codes "C9 TooLarge"

-- why a certificate shows nothing of the units
abbrev pub check_text : CheckFault → List ℕ
check_text check.OutOfMemory = codes "K1 OutOfMemory"
check_text check.OtherUnits = codes "K2 OtherUnits"
check_text check.Order = codes "K3 Order"
check_text (check.Plan e) = codes "K4 Plan " ++ illegal_text e
check_text (check.Value stated found) = codes "K5 Value " ++ (decimal stated ++ (codes " " ++ decimal found))
check_text (check.Children node want got) = codes "K6 Children " ++ (decimal node ++ (codes " " ++ (decimal want ++ (codes " " ++ decimal got))))
check_text (check.Leaf node) = codes "K7 Leaf " ++ decimal node
check_text (check.Depth node) = codes "K8 Depth " ++ decimal node
check_text (check.Level level value) = codes "K9 Level " ++ (decimal level ++ (codes " " ++ decimal value))

-- why a search has no outcome
abbrev pub solve_text : SolveFault → List ℕ
solve_text solve.OutOfMemory = codes "S1 OutOfMemory"
solve_text solve.Spawn = codes "S2 Spawn"

-- why a plan isn't played to its end; the first faulty frame of slaves that aren't modelled ones is told too
abbrev pub play_fault_text : PlayFault → List ℕ
play_fault_text play.OutOfMemory = codes "P1 OutOfMemory"
play_fault_text (play.Counter tick slot datagram want got) =
    codes "P2 Counter " ++ (decimal tick ++ (codes " " ++ (decimal slot ++ (codes " " ++ (decimal datagram ++ (codes " " ++ (decimal want ++ (codes " " ++ decimal got))))))))
play_fault_text (play.Frame f) = codes "P3 Frame " ++ frame_fault_text f
play_fault_text play.Ring = codes "P4 Ring"
play_fault_text play.Spawn = codes "P5 Spawn"
play_fault_text (play.StartCounter frame want got) = codes "P6 StartCounter " ++ (decimal frame ++ (codes " " ++ (decimal want ++ (codes " " ++ decimal got))))
play_fault_text (play.Reply frame) = codes "P7 Reply " ++ decimal frame

-- what is refused
abbrev pub reason_text : Refusal → List ℕ
reason_text (refusal.Unit f) = fault_text f
reason_text (refusal.Illegal f) = illegal_text f
reason_text refusal.TooLarge = codes "E1 TooLarge"
reason_text (refusal.NoPlace n) = codes "E2 NoPlace " ++ decimal n
reason_text refusal.Read = codes "E3 Read"
reason_text (refusal.Cert f) = cert_text f
reason_text (refusal.Check f) = check_text f
reason_text (refusal.Solve f) = solve_text f
reason_text refusal.Write = codes "E4 Write"
reason_text refusal.CertHasNoPlan = codes "E5 CertHasNoPlan"
reason_text (refusal.Play f) = play_fault_text f

-- the line that refuses
abbrev pub refusal_line : Refusal → List ℕ
refusal_line r = codes "refused " ++ (reason_text r ++ codes "\n")

-- 4 for memory, threads, reading and writing, else 3
abbrev pub refusal_code : Refusal → ℕ
refusal_code (refusal.Unit fault.OutOfMemory) = 4
refusal_code (refusal.Unit f) = 3
refusal_code (refusal.Illegal f) = 3
refusal_code refusal.TooLarge = 3
refusal_code (refusal.NoPlace n) = 3
refusal_code refusal.Read = 4
refusal_code (refusal.Cert cert.OutOfMemory) = 4
refusal_code (refusal.Cert f) = 3
refusal_code (refusal.Check check.OutOfMemory) = 4
refusal_code (refusal.Check f) = 3
refusal_code (refusal.Solve f) = 4
refusal_code refusal.Write = 4
refusal_code refusal.CertHasNoPlan = 3
refusal_code (refusal.Play play.OutOfMemory) = 4
refusal_code (refusal.Play play.Ring) = 4
refusal_code (refusal.Play play.Spawn) = 4
refusal_code (refusal.Play f) = 3

abbrev pub out_of_memory : Refusal
out_of_memory = refusal.Unit fault.OutOfMemory

-- over the layout of a plan, its frames, an image or a slave
abbrev pub frame_memory : Refusal
frame_memory = refusal.Play play.OutOfMemory

-- want of memory over the room in which a certificate is checked
abbrev pub check_memory : Refusal
check_memory = refusal.Check check.OutOfMemory

-- want of memory in a plan: before the search, or while its text is made
abbrev pub IsPlanMemory : Refusal → Type 0
IsPlanMemory r = (r ≡ out_of_memory) ⊎ (r ≡ refusal.Solve solve.OutOfMemory)

-- want of memory in a resumed search: as in a plan, or while the certificate is read or checked
abbrev pub IsResumeMemory : Refusal → Type 0
IsResumeMemory r = IsPlanMemory r ⊎ ((r ≡ refusal.Cert cert.OutOfMemory) ⊎ (r ≡ check_memory))

-- want of memory over frames: over the units or a text, the certificate, the check, or the layout, the frames and what they are played with
abbrev pub IsFramesMemory : Refusal → Type 0
IsFramesMemory r = (r ≡ out_of_memory) ⊎ ((r ≡ refusal.Cert cert.OutOfMemory) ⊎ ((r ≡ refusal.Check check.OutOfMemory) ⊎ (r ≡ frame_memory)))

-- a ring between two threads couldn't be made or finished, or a thread not be started
abbrev pub IsNoThread : Refusal → Type 0
IsNoThread r = (r ≡ refusal.Play play.Ring) ⊎ (r ≡ refusal.Play play.Spawn)

-- want of memory, and in a play of rings and threads, which may be answered in place of anything else; a plan, a check and the frames say who met it
abbrev pub IsMemory : Job → Refusal → Type 0
IsMemory job.Cost r = r ≡ out_of_memory
IsMemory (job.Plan workers nodes strong keep) r = IsPlanMemory r
IsMemory (job.Resume workers nodes part) r = IsResumeMemory r
IsMemory job.Check r = (r ≡ out_of_memory) ⊎ ((r ≡ refusal.Cert cert.OutOfMemory) ⊎ (r ≡ refusal.Check check.OutOfMemory))
IsMemory job.Frames r = IsFramesMemory r
IsMemory job.Capture r = IsFramesMemory r
IsMemory job.Play r = IsFramesMemory r ⊎ IsNoThread r
IsMemory job.PlanCost r = IsFramesMemory r

-- what can be wrong with reading: memory, a read that failed, or too many bytes
abbrev pub IsReadFault : Refusal → Type 0
IsReadFault r = (r ≡ out_of_memory) ⊎ ((r ≡ refusal.Read) ⊎ (r ≡ refusal.TooLarge))

-- why bytes give no units: they are too many, or their text has a fault
abbrev pub IsUnitsFault : List ℕ → Refusal → Type 0
IsUnitsFault bytes r =
    ((length bytes ≤ 1048576) × ((f : UnitFault) × (reading bytes ≡ Err f) × (r ≡ refusal.Unit f)))
    ⊎ ((1048576 < length bytes) × (r ≡ refusal.TooLarge))
