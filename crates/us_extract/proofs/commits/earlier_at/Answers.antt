use Rattle.std.proofs.Common.{◌∙◌, rules}
use Rattle.std.specs.Prelude.{slice_get}
use Rattle.std.proofs.lemmas.List.Sorted.{IsPartitionPoint-from_clause}
use Rattle.us_extract.specs.PastSearch.{is_earlier, passes}
use Rattle.us_extract.proofs.Searched.{parted, point_none, point_last}
use Rattle.us_extract.proofs.commits.earlier_at.Goals as goal

pub returns-then-count-eq0 : goal.returns-then-count-eq0
returns-then-count-eq0 c =
    let test = is_earlier c.args.seq in
    let list = c.args.list.now in
    let is = c.args.places.now in
    let point =
    IsPartitionPoint-from_clause (λ i. passes test (slice_get list i)) _ _ c.partition_point-count.ensures.partitioned
    (parted test list is c.requires) (λ a r q k. search rules) in
    point_none test list is c.partition_point-count.result point c.if-count-eq0.true

pub returns : goal.returns
returns c =
    let test = is_earlier c.args.seq in
    let list = c.args.list.now in
    let is = c.args.places.now in
    let point =
    IsPartitionPoint-from_clause (λ i. passes test (slice_get list i)) _ _ c.partition_point-count.ensures.partitioned
    (parted test list is c.requires) (λ a r q k. search rules) in
    c.number_at.ensures
    ∙ point_last test list is c.partition_point-count.result point c.if-count-eq0.false c.partition_point-count.ensures.bound c.requires
