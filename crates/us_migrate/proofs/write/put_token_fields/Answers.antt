use Rattle.std.proofs.Common.{◌≡◌, ◌++◌, length, take}
use Rattle.us_migrate.proofs.Writing.{on_ok, on_err, five, front_of_four}
use Rattle.us_migrate.proofs.write.put_token_fields.Goals as goal

pub returns-clause-ok : goal.returns-clause-ok
returns-clause-ok c =
    on_ok c.put_entries.result _ _
    (λ last. five c.args.out.now.items c.put_u8.new.out.items c.put_u8-2.new.out.items c.put_u64.new.out.items c.put_u64-2.new.out.items c.put_entries.new.out.items _ _ _ _ _
    (c.in_ok-put_u8.ensures {u = tt}).ok (c.in_ok-put_u8-2.ensures {u = tt}).ok (c.in_ok-put_u64.ensures {u = tt}).ok (c.in_ok-put_u64-2.ensures {u = tt}).ok last)
    c.put_entries.ensures.ok

pub returns-clause-err : goal.returns-clause-err
returns-clause-err c =
    on_err c.put_entries.result _ _
    (λ kept. front_of_four c.args.out.now.items c.put_u8.new.out.items c.put_u8-2.new.out.items c.put_u64.new.out.items c.put_u64-2.new.out.items c.put_entries.new.out.items _ _ _ _
    (c.in_ok-put_u8.ensures {u = tt}).ok (c.in_ok-put_u8-2.ensures {u = tt}).ok (c.in_ok-put_u64.ensures {u = tt}).ok (c.in_ok-put_u64-2.ensures {u = tt}).ok kept)
    c.put_entries.ensures.err
