-- The order of tags, as the comparison of Rust.
use Rattle.std.proofs.Common.{◌≡◌, ℕ, refl}
use Rattle.std.specs.Coded.{Coded, code_by, coded×, coded_ℕ}
use Rattle.std.specs.Cmp.{IsTotalOrder, nat_cmp_total, on_total, then_total}
use Rattle.std.specs.FinMap.{IsAntisymmetric, nat_cmp-IsAntisymmetric}
use Rattle.std.specs.Ordering.{nat_cmp, on, ordering_then}
use Rattle.std.specs.declared.cmp.Ordering.{Ordering}
use Rattle.us_kind.specs.Orders.{both_equal}
use Rattle.us_kind.specs.declared.identity.Tag.{Tag}
use Rattle.us_kind.specs.declared.identity.Tid.{Tid}

-- by site, coordinator and number of the transaction, and by place
abbrev pub tag_cmp : Tag → Tag → Ordering
tag_cmp a b =
    ordering_then (ordering_then (nat_cmp a.tid.site b.tid.site) (ordering_then (nat_cmp a.tid.coord b.tid.coord) (nat_cmp a.tid.seq b.tid.seq)))
    (nat_cmp a.place b.place)

-- the order of transactions
abbrev tid_cmp : Tid → Tid → Ordering
tid_cmp a b = ordering_then (nat_cmp a.site b.site) (ordering_then (nat_cmp a.coord b.coord) (nat_cmp a.seq b.seq))

tid_cmp-total : IsTotalOrder tid_cmp
tid_cmp-total =
    then_total {R = on (λ (a : Tid). a.site) nat_cmp} (on_total (λ (a : Tid). a.site) nat_cmp_total)
    (then_total {R = on (λ (a : Tid). a.coord) nat_cmp} (on_total (λ (a : Tid). a.coord) nat_cmp_total) (on_total (λ (a : Tid). a.seq) nat_cmp_total))

pub tag_cmp-total : IsTotalOrder tag_cmp
tag_cmp-total =
    then_total {R = on (λ (a : Tag). a.tid) tid_cmp} (on_total (λ (a : Tag). a.tid) tid_cmp-total) (on_total (λ (a : Tag). a.place) nat_cmp_total)

-- tags that tie are one
pub tag_cmp-IsAntisymmetric : IsAntisymmetric tag_cmp
tag_cmp-IsAntisymmetric a b e =
    let parts = both_equal _ _ e in
    let site = both_equal _ _ parts.0 in
    let coord = both_equal _ _ site.1 in
    let e0 = nat_cmp-IsAntisymmetric a.tid.site b.tid.site site.0 in
    let e1 = nat_cmp-IsAntisymmetric a.tid.coord b.tid.coord coord.0 in
    let e2 = nat_cmp-IsAntisymmetric a.tid.seq b.tid.seq coord.1 in
    let e3 = nat_cmp-IsAntisymmetric a.place b.place parts.1 in
    λ i. record { tid = record { site = e0 i; coord = e1 i; seq = e2 i }; place = e3 i }

-- a tag as its numbers
abbrev pub tag_code : Coded Tag
tag_code =
    code_by (ℕ × (ℕ × (ℕ × ℕ))) (coded× coded_ℕ (coded× coded_ℕ (coded× coded_ℕ coded_ℕ))) (λ t. (t.tid.site, (t.tid.coord, (t.tid.seq, t.place))))
    (λ p. record { tid = record { site = p.0; coord = p.1.0; seq = p.1.1.0 }; place = p.1.1.1 }) (λ _. refl)
