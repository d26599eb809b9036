-- What decoding and encoding are to each other: decoding and encoding are inverse, whatever follows.
use Rattle.us_base.specs.declared.shape.Shape.{Shape}
use Rattle.us_base.specs.Shape.{IsShape}
use Rattle.us_wire.specs.Decoders.{IsCodec}
use Rattle.us_fields.specs.Fields.{item_encoding, op_encoding, answer_encoding, ItemFits, OpFits, AnswerFits}
use Rattle.us_fields.specs.FieldDecoders.{item_at, op_at, answer_at}
use Rattle.us_fields.specs.Effects.{effect_encoding, EffectFits, effect_at, writes_encoding, WritesFit, writes_at}

abbrev pub ReadsItems : Type 0
ReadsItems = IsCodec ItemFits item_encoding item_at

abbrev pub ReadsOps : Type 0
ReadsOps = IsCodec OpFits op_encoding op_at

abbrev pub ReadsAnswers : Type 0
ReadsAnswers = IsCodec AnswerFits answer_encoding answer_at

abbrev pub ReadsEffects : Type 0
ReadsEffects = (shape : Shape) → IsShape shape → IsCodec (EffectFits shape) effect_encoding (effect_at shape)

abbrev pub ReadsWrites : Type 0
ReadsWrites = (shape : Shape) → IsShape shape → IsCodec (WritesFit shape) writes_encoding (writes_at shape)
