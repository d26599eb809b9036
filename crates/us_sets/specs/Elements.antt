-- What a set's state is seen as.
use Rattle.std.specs.Cmp.Lexicographic.{slice_cmp}
use Rattle.std.specs.Coded.{Coded, coded_list, coded_ℕ}
use Rattle.std.specs.FinMap as finite
use Rattle.std.specs.FinMap.{FinMap}
use Rattle.std.specs.Ordering.{nat_cmp}
use Rattle.us_sets.specs.Marks.{Counts, counts_code}

-- the marks of each element, by the bytes of the element
abbrev pub Elements : Type 0
Elements = FinMap (slice_cmp nat_cmp) Counts

-- elements as data
abbrev pub elements_code : Coded Elements
elements_code = finite.code (coded_list coded_ℕ) counts_code
