-- The first counter that isn't the one that is wanted.
use Rattle.std.proofs.Common.{◌≡◌, ◌≢◌, ℕ, zero, suc, ◌+◌, ◌<◌, cond, List, [], ◌∷◌, Some, None, length, get_or, sym, ap, ◌∙◌, subst, inl, inr, arith}
use Rattle.std.proofs.lemmas.Bool.{cases_eq, eq-eqb, ne_eqb}
use Rattle.std.proofs.lemmas.Option.{none-some, same_Some}
use Rattle.ec_player.specs.declared.faults.Wrong.{Wrong}
use Rattle.ec_player.specs.Faults.{first_wrong}
use Rattle.ec_play_laws.specs.Counters.{IsFirstWrong, AreAlike}

both-cons : (x g : ℕ) (ws gs : List ℕ) (i : ℕ) → x ≡ g → ((j : ℕ) → j < i → get_or ws j 0 ≡ get_or gs j 0) → (j : ℕ) → j < suc i → get_or (x ∷ ws) j 0 ≡ get_or (g ∷ gs) j 0
both-cons x g ws gs i e h zero l = e
both-cons x g ws gs i e h (suc j) l = h j (omega (arith, l))

-- what is found at place i, numbered from k on
record FirstAt (wants gots : List ℕ) (k i : ℕ) (w : Wrong) : Type 0 where
  number : w.datagram ≡ k + i
  wanted : i < length wants
  there : i < length gots
  want : w.want ≡ get_or wants i 0
  got : w.got ≡ get_or gots i 0
  differ : w.want ≢ w.got
  before : (j : ℕ) → j < i → get_or wants j 0 ≡ get_or gots j 0

found-at : (k : ℕ) (ws gs : List ℕ) (w : Wrong) → first_wrong k ws gs ≡ Some w → (i : ℕ) × FirstAt ws gs k i w
found-at k [] gs w h = absurd (none-some w h)
found-at k (x ∷ ws) [] w h = absurd (none-some w h)
found-at k (x ∷ ws) (g ∷ gs) w h =
    let here : Wrong = record { datagram = k; want = x; got = g } in
    elim (cases_eq x g) [
      | inl e ↦
          let rest = found-at (suc k) ws gs w (sym (ap (λ b. cond b (first_wrong (suc k) ws gs) (Some here)) (eq-eqb x g e)) ∙ h) in
          let r = rest.1 in (
            suc rest.0,
            record {
              number = omega (arith, r.number);
              wanted = omega (arith, r.wanted);
              there = omega (arith, r.there);
              want = r.want;
              got = r.got;
              differ = r.differ;
              before = both-cons x g ws gs rest.0 e r.before;
            },
          )
      | inr e ↦
          let same : here ≡ w = same_Some here w (sym (ap (λ b. cond b (first_wrong (suc k) ws gs) (Some here)) (ne_eqb x g e)) ∙ h) in (
            0,
            record {
              number = ap (λ v. v.datagram) (sym same) ∙ (let z : k ≡ k + 0 = omega arith in z);
              wanted = omega arith;
              there = omega arith;
              want = ap (λ v. v.want) (sym same);
              got = ap (λ v. v.got) (sym same);
              differ = λ q. e (ap (λ v. v.want) same ∙ q ∙ ap (λ v. v.got) (sym same));
              before = λ j l. absurd (omega (arith, l));
            },
          )
    ]

pub wrong-is : (ws gs : List ℕ) (w : Wrong) → first_wrong 0 ws gs ≡ Some w → IsFirstWrong ws gs w
wrong-is ws gs w h =
    let f = found-at 0 ws gs w h in
    let r = f.1 in
    let e : f.0 ≡ w.datagram = omega (arith, r.number) in
    record {
      wanted = subst (λ i. i < length ws) e r.wanted;
      there = subst (λ i. i < length gs) e r.there;
      want = r.want ∙ ap (λ i. get_or ws i 0) e;
      got = r.got ∙ ap (λ i. get_or gs i 0) e;
      differ = r.differ;
      before = λ j l. r.before j (subst (λ i. j < i) (sym e) l);
    }

alike-cons : (x g : ℕ) (ws gs : List ℕ) → x ≡ g → AreAlike ws gs → AreAlike (x ∷ ws) (g ∷ gs)
alike-cons x g ws gs e h zero l m = e
alike-cons x g ws gs e h (suc j) l m = h j (omega (arith, l)) (omega (arith, m))

alike-from : (k : ℕ) (ws gs : List ℕ) → first_wrong k ws gs ≡ None → AreAlike ws gs
alike-from k [] gs h = λ j l m. absurd (omega (arith, l))
alike-from k (x ∷ ws) [] h = λ j l m. absurd (omega (arith, m))
alike-from k (x ∷ ws) (g ∷ gs) h =
    let here : Wrong = record { datagram = k; want = x; got = g } in
    elim (cases_eq x g) [
      | inl e ↦ alike-cons x g ws gs e (alike-from (suc k) ws gs (sym (ap (λ b. cond b (first_wrong (suc k) ws gs) (Some here)) (eq-eqb x g e)) ∙ h))
      | inr e ↦ absurd (none-some here (sym h ∙ ap (λ b. cond b (first_wrong (suc k) ws gs) (Some here)) (ne_eqb x g e)))
    ]

pub alike-is : (ws gs : List ℕ) → first_wrong 0 ws gs ≡ None → AreAlike ws gs
alike-is ws gs h = alike-from 0 ws gs h
