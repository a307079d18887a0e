use Rattle.std.proofs.Common.{◌≡◌, [], ◌++◌, ap, subst, rules, ◌∙◌}
use Rattle.std.specs.Io.KnownBytes.{Appends}
use Rattle.ec_wire.specs.Stream.{stream, WritesFront}
use Rattle.ec_cert_text.proofs.WriteLemmas.{on_ok, front_all, direct_all, direct_front, waits_behind, waits_alone, waited_front}
use Rattle.ec_cert_text.proofs.buffer.Waiting.write.Goals as goal

pub returns-clause-all : goal.returns-clause-all
returns-clause-all g c =
    let first : c.try_extend_from_slice.new.self ≡ c.args.self.now.bytes = search rules in
    let second : c.try_extend_from_slice-2.new.self ≡ c.flush.new.self.bytes = search rules in
    let none : c.try_extend_from_slice-2.new.self.items ≡ [] = ap (λ v. v.items) second ∙ c.in_ok-flush.ensures.empty in
    on_ok c.write_whole.result _ _ (λ q. direct_all _ _ _ _ _ none (subst (λ v. Appends (g.W.Write.contents (stream c.args.io.now)) (g.W.Write.contents (stream c.flush.new.io)) v.items) first c.in_ok-flush.ensures.all) q) c.write_whole.ensures.all

pub returns-clause-front : goal.returns-clause-front
returns-clause-front g c =
    let first : c.try_extend_from_slice.new.self ≡ c.args.self.now.bytes = search rules in
    direct_front _ _ _ _ _ (subst (λ v. Appends (g.W.Write.contents (stream c.args.io.now)) (g.W.Write.contents (stream c.flush.new.io)) v.items) first c.in_ok-flush.ensures.all) c.write_whole.ensures.front

pub returns-then-is_ok-clause-all : goal.returns-then-is_ok-clause-all
returns-then-is_ok-clause-all g c =
    let both : c.try_extend_from_slice.new.self.items ≡ c.args.self.now.bytes.items ++ c.args.bytes.now = search rules in
    waits_behind (g.W.Write.contents (stream c.args.io.now)) c.args.self.now.bytes.items c.args.bytes.now both

pub returns-then-is_ok-clause-front : goal.returns-then-is_ok-clause-front
returns-then-is_ok-clause-front g c =
    let both : c.try_extend_from_slice.new.self.items ≡ c.args.self.now.bytes.items ++ c.args.bytes.now = search rules in
    front_all (waits_behind (g.W.Write.contents (stream c.args.io.now)) c.args.self.now.bytes.items c.args.bytes.now both)

pub returns-in_err-flush-clause-front : goal.returns-in_err-flush-clause-front
returns-in_err-flush-clause-front g c =
    let first : c.try_extend_from_slice.new.self ≡ c.args.self.now.bytes = search rules in
    waited_front _ _ _ _ (subst (λ v. WritesFront (g.W.Write.contents (stream c.args.io.now)) (g.W.Write.contents (stream c.flush.new.io)) v.items) first c.in_err-flush.ensures.front)

pub returns-then-is_ok-2-clause-all : goal.returns-then-is_ok-2-clause-all
returns-then-is_ok-2-clause-all g c =
    let first : c.try_extend_from_slice.new.self ≡ c.args.self.now.bytes = search rules in
    let both : c.try_extend_from_slice-2.new.self.items ≡ c.flush.new.self.bytes.items ++ c.args.bytes.now = search rules in
    waits_alone _ _ _ _ (both ∙ ap (λ l. l ++ c.args.bytes.now) c.in_ok-flush.ensures.empty) (subst (λ v. Appends (g.W.Write.contents (stream c.args.io.now)) (g.W.Write.contents (stream c.flush.new.io)) v.items) first c.in_ok-flush.ensures.all)

pub returns-then-is_ok-2-clause-front : goal.returns-then-is_ok-2-clause-front
returns-then-is_ok-2-clause-front g c =
    let first : c.try_extend_from_slice.new.self ≡ c.args.self.now.bytes = search rules in
    waited_front _ _ _ _ (subst (λ v. WritesFront (g.W.Write.contents (stream c.args.io.now)) (g.W.Write.contents (stream c.flush.new.io)) v.items) first c.in_ok-flush.ensures.front)
