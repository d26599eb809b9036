use Rattle.std.proofs.Common.{◌∙◌, Some, ap}
use Rattle.us_edge.specs.Links.{connections_after}
use Rattle.us_edge.specs.declared.links.LinkInput.{LinkInput}
use Rattle.us_edge.proofs.Connections.{opened_is_open}
use Rattle.us_edge.proofs.tests.next_opened.Goals as goal

pub returns-clause-open : goal.returns-clause-open
returns-clause-open c =
    opened_is_open c.args.links.now.connections c.poll.new.self.connections c.in-Opened.conn (c.in_ok-conn.ensures.opened ∙ ap (λ (input : LinkInput). connections_after input (Some c.args.links.now.connections)) c.in-Opened.is) c.requires.drops
