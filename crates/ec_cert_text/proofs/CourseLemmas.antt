-- The lines after the first: the first fault of a part is that of the whole.
use Rattle.std.proofs.Common.{◌≡◌, ℕ, List, length, Option, Result, Ok, Err, refl, subst}
use Rattle.ec_loads.specs.Shape.{Shape}
use Rattle.ec_cert.specs.declared.lists.UnitLine.{UnitLine}
use Rattle.ec_cert.specs.declared.cert.Best.{Best}
use Rattle.ec_cert.specs.declared.kinds.Kinds.{Kinds}
use Rattle.ec_cert.specs.LeafKinds.{kinds_in}
use Rattle.ec_cert_text.specs.declared.fault.CertFault.{CertFault}
use Rattle.ec_cert_text.specs.Reading.{At, Fails, slots_at, units_at, order_at, best_at, level_at, start_at, tree_at, end_at, parts_at}
use Rattle.ec_cert_text.proofs.ManyLemmas.{fails_as}

pub no_slots : (version : ℕ) (p : At) (e : CertFault) → Fails e (slots_at p) → Fails e (parts_at version p)
unfolding parts_at
no_slots version p e h = fails_as e (slots_at p) (parts_at version p) (λ f is. rw is refl) h

pub no_units : {q : At} {s : ℕ} (version : ℕ) (p : At) (e : CertFault) → slots_at p ≡ Ok (s, q) → Fails e (units_at q) → Fails e (parts_at version p)
unfolding parts_at
no_units {q} {s} version p e slots h = fails_as e (units_at q) (parts_at version p) (λ f is. rw (slots, is) refl) h

pub no_order : {q : At} {s : ℕ} {r : At} {us : List UnitLine} {n : ℕ} (version : ℕ) (p : At) (e : CertFault) → slots_at p ≡ Ok (s, q) → units_at q ≡ Ok (us, r) → length us ≡ n → Fails e (order_at n r) → Fails e (parts_at version p)
unfolding parts_at
no_order {q} {s} {r} {us} {n} version p e slots units count h = fails_as e (order_at n r) (parts_at version p) (λ f is. rw (slots, units, count, is) refl) h

pub no_best : {q : At} {s : ℕ} {r : At} {us : List UnitLine} {t : At} {o : List ℕ} {n : ℕ} (version : ℕ) (p : At) (e : CertFault) → slots_at p ≡ Ok (s, q) → units_at q ≡ Ok (us, r) → length us ≡ n → order_at n r ≡ Ok (o, t) → Fails e (best_at n t) → Fails e (parts_at version p)
unfolding parts_at
no_best {q} {s} {r} {us} {t} {o} {n} version p e slots units count order h = fails_as e (best_at n t) (parts_at version p) (λ f is. rw (slots, units, count, order, is) refl) h

pub no_level : {q : At} {s : ℕ} {r : At} {us : List UnitLine} {t : At} {o : List ℕ} {u : At} {b : Option Best} {n : ℕ} (version : ℕ) (p : At) (e : CertFault) → slots_at p ≡ Ok (s, q) → units_at q ≡ Ok (us, r) → length us ≡ n → order_at n r ≡ Ok (o, t) → best_at n t ≡ Ok (b, u) → Fails e (level_at version u) → Fails e (parts_at version p)
unfolding parts_at
no_level {q} {s} {r} {us} {t} {o} {u} {b} {n} version p e slots units count order best h = fails_as e (level_at version u) (parts_at version p) (λ f is. rw (slots, units, count, order, best, is) refl) h

pub no_start : {q : At} {s : ℕ} {r : At} {us : List UnitLine} {t : At} {o : List ℕ} {u : At} {b : Option Best} {v : At} {l : Option ℕ} {n : ℕ} (version : ℕ) (p : At) (e : CertFault) → slots_at p ≡ Ok (s, q) → units_at q ≡ Ok (us, r) → length us ≡ n → order_at n r ≡ Ok (o, t) → best_at n t ≡ Ok (b, u) → level_at version u ≡ Ok (l, v) → Fails e (start_at v) → Fails e (parts_at version p)
unfolding parts_at
no_start {q} {s} {r} {us} {t} {o} {u} {b} {v} {l} {n} version p e slots units count order best level h = fails_as e (start_at v) (parts_at version p) (λ f is. rw (slots, units, count, order, best, level, is) refl) h

-- a tree with leaves of these kinds
pub by_kinds : (a b : Kinds) (p : At) (r : Result (Shape × At) CertFault) → a ≡ b → tree_at a 49 p ≡ r → tree_at b 49 p ≡ r
by_kinds a b p r same is = subst (λ k. tree_at k 49 p ≡ r) same is

pub no_tree : {q : At} {s : ℕ} {r : At} {us : List UnitLine} {t : At} {o : List ℕ} {u : At} {b : Option Best} {v : At} {l : Option ℕ} {w : At} {n : ℕ} {k : Kinds} (version : ℕ) (p : At) (e : CertFault) → slots_at p ≡ Ok (s, q) → units_at q ≡ Ok (us, r) → length us ≡ n → order_at n r ≡ Ok (o, t) → best_at n t ≡ Ok (b, u) → level_at version u ≡ Ok (l, v) → start_at v ≡ Ok w → k ≡ kinds_in version l → Fails e (tree_at k 49 w) → Fails e (parts_at version p)
unfolding parts_at
no_tree {q} {s} {r} {us} {t} {o} {u} {b} {v} {l} {w} {n} {k} version p e slots units count order best level start same h = fails_as e (tree_at k 49 w) (parts_at version p) (λ f is. rw (slots, units, count, order, best, level, start, by_kinds k (kinds_in version l) w (Err f) same is) refl) h

pub no_last : {q : At} {s : ℕ} {r : At} {us : List UnitLine} {t : At} {o : List ℕ} {u : At} {b : Option Best} {v : At} {l : Option ℕ} {w : At} {x : At} {shape : Shape} {n : ℕ} {k : Kinds} (version : ℕ) (p : At) (e : CertFault) → slots_at p ≡ Ok (s, q) → units_at q ≡ Ok (us, r) → length us ≡ n → order_at n r ≡ Ok (o, t) → best_at n t ≡ Ok (b, u) → level_at version u ≡ Ok (l, v) → start_at v ≡ Ok w → k ≡ kinds_in version l → tree_at k 49 w ≡ Ok (shape, x) → Fails e (end_at x) → Fails e (parts_at version p)
unfolding parts_at
no_last {q} {s} {r} {us} {t} {o} {u} {b} {v} {l} {w} {x} {shape} {n} {k} version p e slots units count order best level start same tree h = fails_as e (end_at x) (parts_at version p) (λ f is. rw (slots, units, count, order, best, level, start, by_kinds k (kinds_in version l) w (Ok (shape, x)) same tree, is) refl) h
