use Rattle.std.proofs.Common.{◌≡◌, ◌∙◌, sym, subst}
use Rattle.us_history.specs.Histories.{Begun}
use Rattle.us_snapshots.specs.Ascending.{IsNotInItsOwn}
use Rattle.us_history.specs.Pasts.{count_of}
use Rattle.us_extract.specs.PastSearch.{steps_to}
use Rattle.us_extract.proofs.Searched.{direct_own, direct_other}
use Rattle.us_extract.proofs.commits.Commits.count_before.Goals as goal

pub returns-then-same_session : goal.returns-then-same_session
returns-then-same_session c =
    let session = c.args.session.now in
    let cs = c.args.self.now in
    subst (λ (t : Begun). IsNotInItsOwn cs t → c.max.result ≡ count_of (steps_to t) session cs) c.transaction.view_is
    (λ others. c.max.ensures ∙ direct_own session _ cs c.last_earlier.result c.last_shown-shown.result others (sym c.if-same_session.ensures)
    c.last_earlier.ensures c.last_shown-shown.ensures)
    c.requires.others

pub returns-else-same_session : goal.returns-else-same_session
returns-else-same_session c =
    let session = c.args.session.now in
    let cs = c.args.self.now in
    subst (λ (t : Begun). IsNotInItsOwn cs t → c.last_shown-shown.result ≡ count_of (steps_to t) session cs) c.transaction.view_is
    (λ others. direct_other session _ cs c.last_shown-shown.result others (sym c.if-same_session.ensures) c.last_shown-shown.ensures)
    c.requires.others
