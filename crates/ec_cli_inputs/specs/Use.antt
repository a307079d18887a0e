-- A reader or writer over a call.
use Rattle.std.specs.Prelude.{◌≡◌, ◌⊎◌, ℕ, true, false, List, Option, Some, None, IfSome, option_map}
use Rattle.std.proofs.Common.{MutBor, inl, inr}
use Rattle.ec_wire.specs.declared.io.Io.{Io}
use Rattle.ec_wire.specs.Stream.{stream, has_failed}

-- the bytes that it tells, and it before and after
pub record Use (X : Type 0) : Type 0 where
  pub tells : X → Option (List ℕ)
  pub old : Io X
  pub new : Io X

abbrev pub used : {X : Type 0} → (X → Option (List ℕ)) → Io X → Io X → Use X
used tells old new = record { tells = tells; old = old; new = new }

-- the bytes that it has before and after, where it tells them
abbrev pub before : {X : Type 0} → Use X → Option (List ℕ)
before s = s.tells (stream s.old)

abbrev pub after : {X : Type 0} → Use X → Option (List ℕ)
after s = s.tells (stream s.new)

-- no call of it failed, or one did
abbrev pub IsSound : {X : Type 0} → Use X → Type 0
IsSound s = has_failed s.new ≡ false

abbrev pub HasFailed : {X : Type 0} → Use X → Type 0
HasFailed s = has_failed s.new ≡ true

-- it is left as it was
abbrev pub IsKept : {X : Type 0} → Use X → Type 0
IsKept s = s.new ≡ s.old

-- ---- one that may not be there

-- what an `Option<&mut X>` leaves
abbrev pub left_behind : {X : Type 0} → (Unit {0} ⊎ ((MutBor X × Unit {0}) ⊎ ⊥)) → Option X
left_behind (inl u) = None
left_behind (inr (inl f)) = Some f.0.now
left_behind (inr (inr b)) = absurd b

-- it before and after, if it is there
pub record Lent (X : Type 0) : Type 0 where
  pub tells : X → Option (List ℕ)
  pub old : Option (Io X)
  pub new : Option (Io X)

abbrev pub lent : {X : Type 0} → (X → Option (List ℕ)) → Option (MutBor (Io X)) → (Unit {0} ⊎ ((MutBor (Io X) × Unit {0}) ⊎ ⊥)) → Lent X
lent tells entry exit = record { tells = tells; old = option_map (λ r. r.now) entry; new = left_behind exit }

-- the one fact where there is none, the other of the one that is there; it isn't there after unless it was before
abbrev pub either : {X : Type 0} → Option X → Option X → Type 0 → (X → X → Type 0) → Type 0
either None None none P = none
either None (Some b) none P = ⊥
either (Some a) None none P = ⊥
either (Some a) (Some b) none P = P a b

abbrev pub IfLent : {X : Type 0} → Lent X → Type 0 → (Use X → Type 0) → Type 0
IfLent s none P = either s.old s.new none (λ a b. P (used s.tells a b))

-- it is left as it was, or isn't there
abbrev pub IsLeft : {X : Type 0} → Lent X → Type 0
IsLeft s = s.new ≡ s.old

-- one that is lent, and none
abbrev pub here : {X : Type 0} → Use X → Lent X
here s = record { tells = s.tells; old = Some s.old; new = Some s.new }

abbrev pub nobody : {X : Type 0} → Lent X
nobody = record { tells = λ _. None; old = None; new = None }

-- no call of it failed, if it is there
abbrev pub HasNotFailed : {X : Type 0} → Lent X → Type 0
HasNotFailed s = IfLent s (Unit {0}) IsSound

-- the bytes that it has, if it is there; where they aren't known nothing is asked
abbrev pub IfGiven : {X : Type 0} → Lent X → (Option (List ℕ) → Type 0) → Type 0
IfGiven s P = IfLent s (P None) (λ c. IfSome (before c) (λ text. P (Some text)))
