-- A history that was put together by hand: whether it ascends.
use Rattle.std.specs.Prelude.{Bool, not, length, ◌==◌, ◌&&◌, ◌||◌, nat_lt, List}
use Rattle.std.specs.List.{list_all}
use Rattle.us_kind.specs.Comparison.{tid_eq}
use Rattle.us_base.specs.Vector.{at_most}
use Rattle.us_exec.specs.Past.{session_eq}
use Rattle.us_history.specs.Histories.{Begun, Committed, History, has_own_vector}

-- of two of a session, the one with the lesser number has the lesser transaction and vector
abbrev pub ascend_by_number : Committed → Committed → Bool
ascend_by_number c d =
    not (session_eq c.begun.session d.begun.session && nat_lt c.number d.number) ||
    (nat_lt c.begun.tid.seq d.begun.tid.seq && at_most c.vector d.vector)

-- it isn't the transaction itself, or has no vector of its own, or isn't in its snapshot
abbrev pub stays_out : Begun → Committed → Bool
stays_out t c = not (tid_eq c.begun.tid t.tid) || not (has_own_vector c && at_most c.vector t.snapshot)

abbrev pub sessions_ascend : List Committed → Bool
sessions_ascend cs = list_all (λ c. list_all (λ d. ascend_by_number c d) cs) cs

abbrev pub all_stay_out : List Committed → Begun → Bool
all_stay_out cs t = list_all (λ c. stays_out t c) cs

-- no session goes on from another one, and all this holds
abbrev pub ascends : History → Bool
ascends h =
    (length h.links == 0)
    && (sessions_ascend h.committed
    && (list_all (λ (d : Committed). all_stay_out h.committed d.begun) h.committed && list_all (λ t. all_stay_out h.committed t) h.begun))
