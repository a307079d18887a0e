use Rattle.std.proofs.Common.{sym, subst, ◌∙◌}
use Rattle.ec_fmmu.specs.Layout.{AreGroups}
use Rattle.ec_fmmu.proofs.AddressLemmas.{total-sum}
use Rattle.ec_fmmu.proofs.RecordLemmas.{all-wanted}
use Rattle.ec_fmmu.proofs.mapping.mapping_of.Goals as goal

pub returns : goal.returns
returns c =
    record {
      groups = subst (AreGroups c.args.seats.now) (sym c.new.ensures) c.in_ok-groups.ensures;
      total = c.all_bytes-total.ensures ∙ sym (total-sum c.args.seats.now);
      fmmus = c.new-2.ensures ∙ c.in_ok-fmmus.ensures;
      wanted = all-wanted c.args.seats.now c.requires.kept;
    }
