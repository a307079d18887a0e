use Rattle.std.proofs.Common.{sym, ap, ◌∙◌, arith, take, rules}
use Rattle.std.proofs.lemmas.Grind.{common_steps}
use Rattle.std.specs.Prelude.{◌==◌}
use Rattle.std.proofs.lemmas.List.Sums.{position_or_len_is}
use Rattle.ec_cli_files.proofs.names.word_of.Goals as goal

pub returns-then-bytes-i-eq32 : goal.returns-then-bytes-i-eq32
returns-then-bytes-i-eq32 c =
    ap (λ n. take n c.args.bytes.now) (sym (position_or_len_is (λ b. b == 32) c.args.bytes.now c.loop-i.i 0 (search rules) c.loop-i.invariant (λ _. search rules)))

pub returns : goal.returns
returns c = sym (ap (λ n. take n c.args.bytes.now) (position_or_len_is (λ b. b == 32) c.args.bytes.now c.loop-i.i 0 (search rules) c.loop-i.invariant (λ less. absurd (grind (arith, common_steps)))) ∙ grind (arith, common_steps))
