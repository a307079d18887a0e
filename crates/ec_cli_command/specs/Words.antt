-- The command lines.
use Rattle.std.specs.Prelude.{◌≡◌, ◌≤◌, ℕ, min, Bool, true, false, String, Option, Some, None}
use Rattle.std.specs.Option.{ForSome}
use Rattle.std.proofs.Common.{Global}
use Rattle.ec_cert.specs.Parts.{IsPart}
use Rattle.ec_cli_command.specs.declared.job.Job.{Job}
use Rattle.ec_cli_command.specs.declared.job.Job.TheVariants as job
use Rattle.ec_cli_command.specs.declared.line.Effort.{Effort}
use Rattle.ec_cli_command.specs.declared.line.Line.{Line}
use Rattle.ec_cli_command.specs.declared.line.Line.TheVariants as line

-- the numbers of a job are within the limits: 1 to 16 workers, 1 to 10,000,000 nodes, and a part of at most 10,000
abbrev pub JobFits : Job → Type 0
JobFits (job.Plan workers nodes strong keep) = (1 ≤ workers) × (workers ≤ 16) × (1 ≤ nodes) × (nodes ≤ 10000000)
JobFits (job.Resume workers nodes part) = (1 ≤ workers) × (workers ≤ 16) × (1 ≤ nodes) × (nodes ≤ 10000000) × IsPart part × (part.count ≤ 10000)
JobFits _ = Unit {0}

-- a certificate is read, where there is one
abbrev pub reads_cert : Job → Bool
reads_cert job.Cost = false
reads_cert (job.Plan workers nodes strong keep) = false
reads_cert _ = true

-- a file is written, where there is a writer for it
abbrev pub writes_file : Job → Bool
writes_file (job.Plan workers nodes strong keep) = true
writes_file (job.Resume workers nodes part) = true
writes_file job.Capture = true
writes_file _ = false

-- what a line asks for
abbrev pub job_of : Line → Job
job_of (line.Cost None svg) = job.Cost
job_of (line.Cost (Some cert) svg) = job.PlanCost
job_of (line.Plan effort strong keep out places) = job.Plan effort.workers effort.nodes strong keep
job_of (line.Resume cert effort part out places) = job.Resume effort.workers effort.nodes part
job_of (line.Check cert) = job.Check
job_of (line.Frames cert None header table report) = job.Frames
job_of (line.Frames cert (Some pcap) header table report) = job.Capture
job_of (line.Play cert) = job.Play

-- the line with at most so many nodes for its search
abbrev pub limited : ℕ → Line → Line
limited most (line.Plan effort strong keep out places) = line.Plan (record { workers = effort.workers; nodes = min effort.nodes most; minutes = effort.minutes }) strong keep out places
limited most (line.Resume cert effort part out places) = line.Resume cert (record { workers = effort.workers; nodes = min effort.nodes most; minutes = effort.minutes }) part out places
limited most l = l

-- the path of the certificate that it reads
abbrev pub cert_of : Line → Option (String Global)
cert_of (line.Cost cert svg) = cert
cert_of (line.Plan effort strong keep out places) = None
cert_of (line.Resume cert effort part out places) = Some cert
cert_of (line.Check cert) = Some cert
cert_of (line.Frames cert pcap header table report) = cert
cert_of (line.Play cert) = cert

-- the path of what the job writes before its text
abbrev pub out_of : Line → Option (String Global)
out_of (line.Cost cert svg) = None
out_of (line.Plan effort strong keep out places) = out
out_of (line.Resume cert effort part out places) = out
out_of (line.Check cert) = None
out_of (line.Frames cert pcap header table report) = pcap
out_of (line.Play cert) = None

-- what its search may take
abbrev pub effort_of : Line → Option Effort
effort_of (line.Plan effort strong keep out places) = Some effort
effort_of (line.Resume cert effort part out places) = Some effort
effort_of _ = None

-- the path of the units with the places of its plan
abbrev pub places_of : Line → Option (String Global)
places_of (line.Plan effort strong keep out places) = places
places_of (line.Resume cert effort part out places) = places
places_of _ = None

-- the job searches for nothing
abbrev pub IsPlain : Job → Type 0
IsPlain (job.Plan workers nodes strong keep) = ⊥
IsPlain (job.Resume workers nodes part) = ⊥
IsPlain _ = Unit {0}
