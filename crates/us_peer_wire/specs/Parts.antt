-- What messages hold: how each is encoded, which have an encoding, and which stands at a place.
use Rattle.std.specs.Prelude.{ℕ, ◌≤◌, ◌==◌, List, [], ◌∷◌, ◌++◌, slice_get, Option, Some, None, option_to_list, if◌then◌else◌}
use Rattle.std.specs.Int.{w8}
use Rattle.us_base.specs.declared.shape.Shape.{Shape}
use Rattle.us_base.specs.Shape.{sites_of}
use Rattle.us_wire.specs.Decoders.{Decoder, number_between_at}
use Rattle.us_migrate.specs.Encodings.{tid_encoding, vector_encoding, IsOneOf, TidFits, VectorFits}
use Rattle.us_migrate.specs.Decoders.{tid_at, vector_at}
use Rattle.us_value.specs.declared.operation.Effect.{Effect}
use Rattle.us_fields.specs.Fields.{item_encoding, ItemFits, answer_encoding, AnswerFits}
use Rattle.us_fields.specs.FieldDecoders.{item_at, answer_at}
use Rattle.us_fields.specs.Lists.{both_at, made_at, coded_at, list_encoding, ListFits, list_at}
use Rattle.us_fields.specs.Effects.{places, effect_encoding, EffectFits, effect_at, writes_encoding, WritesFit, writes_at}
use Rattle.us_fields.specs.Tuples.{touch_encoding, TouchFits, touch_at, committed_encoding, CommittedFits, committed_at}
use Rattle.us_peer_wire.specs.declared.message.Actor.{Actor}
use Rattle.us_peer_wire.specs.declared.message.Form.{Form}
use Rattle.us_peer_wire.specs.declared.message.Form.TheVariants.{Answered, WritesFull, AnswerFull}
use Rattle.us_peer_wire.specs.declared.message.LogEntry.{LogEntry}
use Rattle.us_peer_wire.specs.declared.message.OutcomeEnd.{OutcomeEnd}
use Rattle.us_peer_wire.specs.declared.message.OutcomeEnd.TheVariants.{Commit, Abort}
use Rattle.us_peer_wire.specs.declared.message.Page.{Page}
use Rattle.us_peer_wire.specs.declared.message.Page.TheVariants.{Skip, Holds}

-- ---- actors: a site from 1, and an actor from 0

abbrev pub actor_encoding : Actor → List ℕ
actor_encoding a = a.site ∷ a.actor ∷ []

pub record ActorFits (shape : Shape) (a : Actor) : Type 0 where
  pub site : IsOneOf (sites_of shape) a.site
  pub actor : a.actor ≤ shape.parts

unfoldable pub actor_at : Shape → Decoder Actor
actor_at shape = made_at (λ p. record { site = p.0; actor = p.1 }) (both_at (number_between_at w8 1 (sites_of shape)) (number_between_at w8 0 shape.parts))

-- ---- forms: a code, and what it tells

abbrev pub form_code : Form → ℕ
form_code (Answered answer effect) = 0
form_code WritesFull = 7
form_code AnswerFull = 8

-- the answer, and a list of the effect or of none
abbrev pub form_fields : Form → List ℕ
form_fields (Answered answer effect) = answer_encoding answer ++ list_encoding effect_encoding (option_to_list effect)
form_fields WritesFull = []
form_fields AnswerFull = []

abbrev pub form_encoding : Form → List ℕ
form_encoding form = form_code form ∷ form_fields form

-- an effect that is there has an encoding
abbrev pub MaybeFits : Shape → Option Effect → Type 0
MaybeFits shape None = Unit {0}
MaybeFits shape (Some effect) = EffectFits shape effect

abbrev pub FormFits : Shape → Form → Type 0
FormFits shape (Answered answer effect) = AnswerFits answer × MaybeFits shape effect
FormFits shape WritesFull = Unit {0}
FormFits shape AnswerFull = Unit {0}

unfoldable pub maybe_at : Shape → Decoder (Option Effect)
maybe_at shape = made_at (λ effects. slice_get effects 0) (list_at 0 1 (effect_at shape))

unfoldable pub form_fields_at : Shape → ℕ → Decoder Form
form_fields_at shape code input at =
    if code == 0 then made_at (λ p. Answered p.0 p.1) (both_at answer_at (maybe_at shape)) input at
    else if code == 7 then Some (WritesFull, at)
    else if code == 8 then Some (AnswerFull, at)
    else None

unfoldable pub form_at : Shape → Decoder Form
form_at shape = coded_at (form_fields_at shape)

-- ---- entries of the ballot log

-- the transaction, its snapshot, the list of its touches, its writes
abbrev pub entry_encoding : Shape → LogEntry → List ℕ
entry_encoding shape e = tid_encoding e.tid ++ (vector_encoding shape e.snapshot ++ (list_encoding touch_encoding e.touches ++ writes_encoding e.writes))

-- at most 64 touches, one for each operation
pub record EntryFits (shape : Shape) (e : LogEntry) : Type 0 where
  pub tid : TidFits shape e.tid
  pub snapshot : VectorFits shape e.snapshot
  pub touches : ListFits 0 places TouchFits e.touches
  pub writes : WritesFit shape e.writes

unfoldable pub entry_at : Shape → Decoder LogEntry
entry_at shape =
    made_at (λ p. record { tid = p.0; snapshot = p.1.0; touches = p.1.1.0; writes = p.1.1.1 })
    (both_at (tid_at shape) (both_at (vector_at shape) (both_at (list_at 0 places touch_at) (writes_at shape))))

-- ---- pages: a code, and what it tells

abbrev pub page_code : Page → ℕ
page_code Skip = 0
page_code (Holds tid vector writes) = 1

abbrev pub page_fields : Shape → Page → List ℕ
page_fields shape Skip = []
page_fields shape (Holds tid vector writes) = committed_encoding shape (tid, vector, writes)

abbrev pub page_encoding : Shape → Page → List ℕ
page_encoding shape page = page_code page ∷ page_fields shape page

abbrev pub PageFits : Shape → Page → Type 0
PageFits shape Skip = Unit {0}
PageFits shape (Holds tid vector writes) = CommittedFits shape (tid, vector, writes)

unfoldable pub page_fields_at : Shape → ℕ → Decoder Page
page_fields_at shape code input at =
    if code == 0 then Some (Skip, at)
    else if code == 1 then made_at (λ t. Holds t.0 t.1 t.2) (committed_at shape) input at
    else None

unfoldable pub page_at : Shape → Decoder Page
page_at shape = coded_at (page_fields_at shape)

-- ---- ends of strong transactions: a code, and what it tells

abbrev pub end_code : OutcomeEnd → ℕ
end_code Commit = 1
end_code (Abort named item) = 2

abbrev pub end_fields : OutcomeEnd → List ℕ
end_fields Commit = []
end_fields (Abort named item) = tid_encoding named ++ item_encoding item

abbrev pub end_encoding : OutcomeEnd → List ℕ
end_encoding end = end_code end ∷ end_fields end

abbrev pub EndFits : Shape → OutcomeEnd → Type 0
EndFits shape Commit = Unit {0}
EndFits shape (Abort named item) = TidFits shape named × ItemFits item

unfoldable pub end_fields_at : Shape → ℕ → Decoder OutcomeEnd
end_fields_at shape code input at =
    if code == 1 then Some (Commit, at)
    else if code == 2 then made_at (λ p. Abort p.0 p.1) (both_at (tid_at shape) item_at) input at
    else None

unfoldable pub end_at : Shape → Decoder OutcomeEnd
end_at shape = coded_at (end_fields_at shape)
