-- One session's turn among all.
use Rattle.std.proofs.Common.{◌≡◌, ℕ, ◌<◌, ◌+◌, List, [], ◌∷◌, ◌++◌, length, drop, take, get_or, ap, sym, ◌∙◌, append_assoc, arith}
use Rattle.std.specs.Prelude.{slice_set}
use Rattle.std.proofs.lemmas.List.{take_more_set, drop-set-lt}
use Rattle.us_model.specs.declared.coordinator.Session.{Session}
use Rattle.us_model.specs.declared.coordinator.Context.{Context}
use Rattle.us_model.specs.Sessions.{SessionStep}
use Rattle.us_model.specs.Coordinators.{each_session}
use Rattle.us_coord.proofs.Loops.{drop-turn}

rest-same : (xs : List Session) (i : ℕ) (s : Session) → drop (i + 1) (slice_set xs i s) ≡ drop (i + 1) xs
rest-same xs i s = drop-set-lt (i + 1) xs i s (omega arith)

pub each-context : (f : Context → Session → SessionStep) (d d' : Context) (s s' : Session) (xs : List Session) (i : ℕ) → i < length xs → s ≡ get_or xs i s
    → d' ≡ (f d s).context → (each_session f d' (drop (i + 1) (slice_set xs i s'))).context ≡ (each_session f d (drop i xs)).context
each-context f d d' s s' xs i h is e =
    ap (λ ys. (each_session f d' ys).context) (rest-same xs i s')
    ∙ ap (λ (x : Context). (each_session f x (drop (i + 1) xs)).context) e
    ∙ sym (ap (λ ys. (each_session f d ys).context) (drop-turn xs i s h is))

pub each-sessions : (f : Context → Session → SessionStep) (d d' : Context) (s s' : Session) (xs : List Session) (i : ℕ) → i < length xs → s ≡ get_or xs i s
    → d' ≡ (f d s).context → s' ≡ (f d s).session → take (i + 1) (slice_set xs i s')
    ++ (each_session f d' (drop (i + 1) (slice_set xs i s'))).sessions ≡ take i xs ++ (each_session f d (drop i xs)).sessions
each-sessions f d d' s s' xs i h is e e' =
    ap (λ ys. take (i + 1) (slice_set xs i s') ++ (each_session f d' ys).sessions) (rest-same xs i s')
    ∙ ap (λ ys. ys ++ (each_session f d' (drop (i + 1) xs)).sessions) (take_more_set xs i s' h)
    ∙ (λ k. (take i xs ++ e' k ∷ []) ++ (each_session f (e k) (drop (i + 1) xs)).sessions)
    ∙ append_assoc (take i xs) ((f d s).session ∷ []) (each_session f (f d s).context (drop (i + 1) xs)).sessions
    ∙ sym (ap (λ ys. take i xs ++ (each_session f d ys).sessions) (drop-turn xs i s h is))
