-- A turn of a session's run.
use Rattle.std.proofs.Common.{◌≡◌, ℕ, List, [], ◌∷◌, length, Bool, true, false, refl, sym, ap, ◌∙◌, arith}
use Rattle.std.specs.Prelude.{Option, Some, None, if◌then◌else◌, slice_get, remove}
use Rattle.std.proofs.lemmas.Bool.{cond-true, cond-false}
use Rattle.us_value.specs.declared.item.Item.{Item}
use Rattle.us_value.specs.declared.item.Write.{Write}
use Rattle.us_value.specs.declared.operation.Op.{Op}
use Rattle.us_value.specs.Catalogs.{kind_in}
use Rattle.us_model.specs.State.{Spaces}
use Rattle.us_client_wire.specs.declared.frame.Request.{Request}
use Rattle.us_client_wire.specs.declared.frame.Request.TheVariants.{Begin, Perform, CommitCausal, CommitStrong, Abandon, Barrier, AskToken, Attach}
use Rattle.us_model.specs.declared.refusal.Refusal.{Refusal}
use Rattle.us_model.specs.declared.coordinator.Transaction.{Transaction}
use Rattle.us_model.specs.declared.coordinator.QueuedRequest.{QueuedRequest}
use Rattle.us_model.specs.declared.coordinator.Session.{Session}
use Rattle.us_model.specs.declared.coordinator.Context.{Context}
use Rattle.us_model.specs.Sessions.{SessionStep, stays, objection, begin, perform, commit_causal, abandon, request, performed, committing}
use Rattle.us_model.specs.Sessions.{is_nothing, resume, run_requests, run_session}

-- a request leaves the queue behind it
committing-requests : (d : Context) (s : Session) (at : ℕ) (tx : Transaction) (ws : List Write) → (committing d s at tx ws).session.requests ≡ s.requests
committing-requests d s at tx [] = refl
committing-requests d s at tx (w ∷ ws) = refl

performed-requests : (d : Context) (s : Session) (at : ℕ) (tx : Transaction) (item : Item) (op : Op) (o : Option Refusal)
    → (performed d s at tx item op o).session.requests ≡ s.requests
performed-requests d s at tx item op None = refl
performed-requests d s at tx item op (Some why) = refl

begin-requests : (d : Context) (s : Session) (at : ℕ) (o : Option Transaction) → (begin d s at o).session.requests ≡ s.requests
begin-requests d s at None = refl
begin-requests d s at (Some tx) = refl

perform-requests : (spaces : Spaces) (d : Context) (s : Session) (at : ℕ) (item : Item) (op : Op) (o : Option Transaction)
    → (perform spaces d s at item op o).session.requests ≡ s.requests
perform-requests spaces d s at item op None = refl
perform-requests spaces d s at item op (Some tx) = performed-requests d s at tx item op (objection (kind_in spaces item.space) tx op)

commit_causal-requests : (d : Context) (s : Session) (at : ℕ) (o : Option Transaction) → (commit_causal d s at o).session.requests ≡ s.requests
commit_causal-requests d s at None = refl
commit_causal-requests d s at (Some tx) = committing-requests d s at tx tx.writes

abandon-requests : (d : Context) (s : Session) (at : ℕ) (o : Option Transaction) → (abandon d s at o).session.requests ≡ s.requests
abandon-requests d s at None = refl
abandon-requests d s at (Some tx) = refl

pub request-requests : (spaces : Spaces) (d : Context) (s : Session) (at : ℕ) (r : Request) → (request spaces d s at r).session.requests ≡ s.requests
unfolding request
request-requests spaces d s at Begin = begin-requests d s at s.running
request-requests spaces d s at (Perform item op) = perform-requests spaces d s at item op s.running
request-requests spaces d s at CommitCausal = commit_causal-requests d s at s.running
request-requests spaces d s at Abandon = abandon-requests d s at s.running
request-requests spaces d s at CommitStrong = refl
request-requests spaces d s at Barrier = refl
request-requests spaces d s at AskToken = refl
request-requests spaces d s at (Attach token) = refl

-- the run after a request is that of the rest
run_after : (spaces : Spaces) (a : SessionStep) (rest : List QueuedRequest) → a.session.requests ≡ rest
    → run_session spaces a.context a.session ≡ resume a (λ d' s'. run_requests spaces d' s' rest)
unfolding run_session
run_after spaces a rest e =
    ap (λ (xs : List QueuedRequest). if is_nothing a.session.waits then run_requests spaces a.context a.session xs else stays a.context a.session) e

run_at : (spaces : Spaces) (d : Context) (s : Session) (a : QueuedRequest) (rest : List QueuedRequest) → is_nothing s.waits ≡ true → s.requests ≡ a ∷ rest
    → run_session spaces d s ≡ resume (request spaces d (record s { requests = rest }) a.at a.request) (λ d' s'. run_requests spaces d' s' rest)
unfolding run_session
run_at spaces d s a rest w e = cond-true _ _ _ w ∙ ap (run_requests spaces d s) e

-- a turn: the first request is taken off and performed, and the run goes on
pub run-turn : (spaces : Spaces) (d : Context) (s : Session) (a : QueuedRequest) (rest : List QueuedRequest) → is_nothing s.waits ≡ true → s.requests ≡ a ∷ rest
    → run_session spaces (request spaces d (record s { requests = rest }) a.at a.request).context
    (request spaces d (record s { requests = rest }) a.at a.request).session ≡ run_session spaces d s
run-turn spaces d s a rest w e = run_after spaces (request spaces d (record s { requests = rest }) a.at a.request) rest
    (request-requests spaces d (record s { requests = rest }) a.at a.request) ∙ sym (run_at spaces d s a rest w e)

-- nothing is left to do where the first request waits, or there is none
pub run-waits : (spaces : Spaces) (d : Context) (s : Session) → is_nothing s.waits ≡ false → run_session spaces d s ≡ stays d s
unfolding run_session
run-waits spaces d s w = cond-false _ _ _ w

pub run-empty : (spaces : Spaces) (d : Context) (s : Session) → s.requests ≡ [] → run_session spaces d s ≡ stays d s
unfolding run_session
run-empty spaces d s e = on (is_nothing s.waits)
  where
    same : stays d (record s { requests = [] }) ≡ stays d s
    same = ap (λ (xs : List QueuedRequest). stays d (record s { requests = xs })) (sym e)

    on : (b : Bool) → (if b then run_requests spaces d s s.requests else stays d s) ≡ stays d s
    on true = ap (run_requests spaces d s) e ∙ same
    on false = refl

-- the first of a list, and the list without it
pub taken_first : {X : Type 0} (xs rest : List X) (x : X) → slice_get xs 0 ≡ Some x → rest ≡ remove xs 0 → xs ≡ x ∷ rest
taken_first [] rest x e r = absurd (cc)
taken_first (y ∷ xs) rest x e r = let same : y ≡ x = cc in (λ k. same k ∷ sym r k)

pub no_items : {X : Type 0} (xs : List X) → length xs ≡ 0 → xs ≡ []
no_items [] e = refl
no_items (x ∷ xs) e = absurd (omega arith)
