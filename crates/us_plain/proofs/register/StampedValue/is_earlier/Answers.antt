use Rattle.std.proofs.Common.{sym, ◌∙◌}
use Rattle.us_kind.specs.Orders.{bytes_less-cmp, stamp_lex-equal}
use Rattle.us_plain.proofs.register.StampedValue.is_earlier.Goals as goal

pub returns-in-Equal : goal.returns-in-Equal
returns-in-Equal c =
    c.lt.ensures ∙ bytes_less-cmp c.args.self.now.value c.args.value.now
    ∙ sym (stamp_lex-equal c.args.self.now.stamp c.args.stamp _ (sym c.cmp.ensures ∙ c.in-Equal.is))
