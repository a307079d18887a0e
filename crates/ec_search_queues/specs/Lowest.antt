-- What threads know of a number that only falls.
use Rattle.std.specs.Prelude.{◌≡◌, ℕ, ◌≤◌, nat_lt, min, if◌then◌else◌, Option, Some, None, slice_index}
use mathlib.Core.Option.{some}
use lib.ListN.{get_elem?}
use Rattle.atomic_table.specs.Table.{State, Me}
use Rattle.atomic_table.specs.Seated.{TableId}
use Rattle.ec_search_queues.specs.declared.bound.Known.{Known}

-- what the word is before any number was lowered to
abbrev pub nothing : ℕ
nothing = 18446744073709551615

abbrev pub known : ℕ → ℕ → Known
known n m = record { least = n; lowered = m }

-- the word is at most what any seat knows
abbrev pub AtLeast : State (Unit {0}) Known → Type 0
AtLeast s = (id : ℕ) (v : Known) → get_elem? s.views id ≡ some v → slice_index s.words 0 ≤ v.least

-- the word is at least the least number to which some seat lowered it
abbrev pub IsFound : State (Unit {0}) Known → Type 0
IsFound s = (k : ℕ) → ((id : ℕ) (v : Known) → get_elem? s.views id ≡ some v → k ≤ v.lowered) → k ≤ slice_index s.words 0

abbrev pub IsKnown : State (Unit {0}) Known → Type 0
IsKnown s = AtLeast s × IsFound s

-- n was found, at most what the seat knew, and this is what it knows then
abbrev pub HasSeen : Me (Unit {0}) Known → ℕ → Me (Unit {0}) Known → Known → Type 0
HasSeen v n w m = (n ≤ v.0.least) × (w.0 ≡ m)

-- the number that a word tells
abbrev pub told : ℕ → Option ℕ
told n = if nat_lt n nothing then Some n else None

-- none is above every number
abbrev pub IsAtMost : Option ℕ → Option ℕ → Type 0
IsAtMost v None = Unit {0}
IsAtMost None (Some m) = ⊥
IsAtMost (Some n) (Some m) = n ≤ m

-- the lesser of a number and a value; none is above every number
abbrev pub lesser_of : Option ℕ → ℕ → Option ℕ
lesser_of None value = Some value
lesser_of (Some n) value = Some (min n value)

-- which bound a reader is of, the least number that it has read or lowered to, and the least that it has lowered to
pub record ReaderView : Type 0 where
  pub bound : TableId
  pub known : Option ℕ
  pub lowered : Option ℕ

abbrev pub reader_view : TableId → ℕ → ℕ → ReaderView
reader_view bound n m = record { bound = bound; known = told n; lowered = told m }

-- the reader is of this bound, and has neither read nor lowered to a number
abbrev pub IsNewReader : TableId → ReaderView → Type 0
IsNewReader bound r = (r.bound ≡ bound) × (r.known ≡ None) × (r.lowered ≡ None)

-- the reader of the same bound now knows what was read, which is at most what it knew; it has lowered it to no number more
pub record IsRead (old : ReaderView) (result : Option ℕ) (new : ReaderView) : Type 0 where
  pub same : new.bound ≡ old.bound
  pub known : new.known ≡ result
  pub falls : IsAtMost result old.known
  pub lowered : new.lowered ≡ old.lowered

-- the reader of the same bound now knows a number that is at most the value and at most what it knew; it has lowered it to the value
pub record IsLowered (old : ReaderView) (value : ℕ) (new : ReaderView) : Type 0 where
  pub same : new.bound ≡ old.bound
  pub most : IsAtMost new.known (Some value)
  pub falls : IsAtMost new.known old.known
  pub lowered : new.lowered ≡ lesser_of old.lowered value
