use Rattle.std.proofs.Common.{◌≡◌, ◌+◌, ◌++◌, arith}
use Rattle.std.specs.Prelude.{codes}
use Rattle.std.specs.Fmt.{decimal}
use Rattle.us_config.proofs.Lists.{default_more}
use Rattle.us_config.proofs.node.local_addresses.Goals as goal

pub loop-site-preserved : goal.loop-site-preserved
loop-site-preserved c =
    let text : c.of.result ≡ codes "127.0.0.1:" ++ decimal (c.args.port + c.loop-site.site + 1) = first_of (cc (c.of.ensures, c.in_ok-format.ensures.ok, c.from.ensures), grind (arith, c.of.ensures, c.in_ok-format.ensures.ok, c.from.ensures)) in
    rw (c.in_ok-push.ensures.ok, text) (default_more c.loop-site.addresses c.args.port c.args.sites c.loop-site.site _ c.loop-site-test.true c.loop-site.invariant)
