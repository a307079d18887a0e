-- Fronts of texts, and the line that a fault names.
use Rattle.std.specs.Prelude.{◌≡◌, ℕ, ◌+◌, ◌≤◌, ◌==◌, true, if◌then◌else◌, List, [], ◌∷◌, length}
use Rattle.std.specs.List.{list_all}
use Rattle.ec_cert_text.specs.declared.fault.CertFault.{CertFault}
use Rattle.ec_cert_text.specs.declared.fault.CertFault.TheVariants as fault
use Rattle.ec_cert_text.specs.Reading.{is_text_byte}

-- how many line feeds bytes have, so many lines are complete in them
abbrev pub feed_count : List ℕ → ℕ
feed_count [] = 0
feed_count (b ∷ bs) = if b == 10 then 1 + feed_count bs else feed_count bs

-- the line of a fault; 0 where it is a fault of no line
abbrev pub fault_line : CertFault → ℕ
fault_line fault.Version = 1
fault_line (fault.BadLine n) = n
fault_line (fault.Number n) = n
fault_line (fault.Early n) = n
fault_line (fault.Late n) = n
fault_line (fault.TooDeep n) = n
fault_line _ = 0

-- bytes that a certificate may have, and no more of them than are read
pub record IsReadable (text : List ℕ) : Type 0 where
  pub short : length text ≤ 67108864
  pub bytes : list_all is_text_byte text ≡ true
