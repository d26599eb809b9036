-- What is written of a trace is read, and what is read is written so.
use Rattle.std.proofs.Common.{◌≡◌, ℕ, ◌^◌, ◌<◌, Bool, List, [], ◌∷◌, map, Result, refl, sym, ap, ◌∙◌}
use Rattle.std.specs.List.{join_with_byte}
use Rattle.std.proofs.lemmas.Bool.{and_parts, ltb-true}
use Rattle.std.proofs.lemmas.List.Splits.{join_with_byte-slice_split}
use Rattle.us_base.specs.declared.shape.Shape.{Shape}
use Rattle.us_base.specs.Shape.{IsShape}
use Rattle.us_schedule.specs.declared.trace_line.TraceLine.{TraceLine}
use Rattle.us_schedule.specs.declared.trace_line.TraceLine.TheVariants.{Node, Open, Bytes, Close, Tick, Take, Lead, Forward, Lost, NoPoll, Bad, End}
use Rattle.us_schedule.specs.Lines.{is_site, is_coord, is_actor, is_positive, is_clock, is_piece, lower_digit, Parsed, read_of, is_skipped}
use Rattle.us_schedule.specs.Trace.{is_part, in_trace_range, IsAllowedTrace, trace_words_of, trace_encoding_of, trace_said, trace_read, TraceWrittenIsRead, TraceReadIsWritten}
use Rattle.us_schedule.proofs.TraceGrammar.{trace_said_is_read}
use Rattle.us_schedule.proofs.Again.{AreWords, NoSpaces, split_words, decimal_no_space, hex_no_space, site_below, coord_below, actor_below, positive_below, clock_below, one_again, two_again, hex_alone_again, two_and_hex_again, again, name_again, lower_joined, found_is, not_none}

words_again : (shape : Shape) (line : TraceLine) → IsShape shape → IsAllowedTrace shape line → AreWords TraceLine (trace_said shape) (trace_words_of line) line
unfolding trace_said
words_again shape (Node site) ok h =
    let ls = site_below shape site ok h.ranges in
    record {
      says_line = one_again (in_trace_range shape) Node site ls h.ranges;
      spaces = ((refl, (refl, (refl, (refl, tt)))), (decimal_no_space site ls, tt));
    }
words_again shape (Open coord) ok h =
    let lc = coord_below shape coord ok h.ranges in
    record {
      says_line = one_again (in_trace_range shape) Open coord lc h.ranges;
      spaces = ((refl, (refl, (refl, (refl, tt)))), (decimal_no_space coord lc, tt));
    }
words_again shape (Bytes coord session bytes) ok h =
    let r = and_parts (is_coord shape coord) _ h.ranges in
    let q = and_parts (is_positive session) (is_piece bytes) r.1 in
    let lc = coord_below shape coord ok r.0 in
    let ln = positive_below session q.0 in
    record {
      says_line = two_and_hex_again (in_trace_range shape) Bytes coord session bytes lc ln h.bytes h.ranges;
      spaces = ((refl, (refl, (refl, (refl, (refl, tt))))), (decimal_no_space coord lc, (decimal_no_space session ln, (hex_no_space bytes h.bytes, tt))));
    }
words_again shape (Close coord session) ok h =
    let r = and_parts (is_coord shape coord) (is_positive session) h.ranges in
    let lc = coord_below shape coord ok r.0 in
    let ln = positive_below session r.1 in
    record {
      says_line = two_again (in_trace_range shape) Close coord session lc ln h.ranges;
      spaces = ((refl, (refl, (refl, (refl, (refl, tt))))), (decimal_no_space coord lc, (decimal_no_space session ln, tt)));
    }
words_again shape (Tick actor clock) ok h =
    let r = and_parts (is_actor shape actor) (is_clock clock) h.ranges in
    let la = actor_below shape actor ok r.0 in
    let lk = clock_below clock r.1 in
    record {
      says_line = two_again (in_trace_range shape) Tick actor clock la lk h.ranges;
      spaces = ((refl, (refl, (refl, (refl, tt)))), (decimal_no_space actor la, (decimal_no_space clock lk, tt)));
    }
words_again shape (Take frame) ok h =
    record {
      says_line = hex_alone_again (in_trace_range shape) Take frame h.bytes refl;
      spaces = ((refl, (refl, (refl, (refl, tt)))), (hex_no_space frame h.bytes, tt));
    }
words_again shape Lead ok h =
    record {
      says_line = refl;
      spaces = ((refl, (refl, (refl, (refl, tt)))), tt);
    }
words_again shape (Forward part origin) ok h =
    let r = and_parts (is_part shape part) (is_site shape origin) h.ranges in
    let lp = coord_below shape part ok r.0 in
    let lo = site_below shape origin ok r.1 in
    record {
      says_line = two_again (in_trace_range shape) Forward part origin lp lo h.ranges;
      spaces = ((refl, (refl, (refl, (refl, (refl, (refl, (refl, tt))))))), (decimal_no_space part lp, (decimal_no_space origin lo, tt)));
    }
words_again shape (Lost site) ok h =
    let ls = site_below shape site ok h.ranges in
    record {
      says_line = one_again (in_trace_range shape) Lost site ls h.ranges;
      spaces = ((refl, (refl, (refl, (refl, tt)))), (decimal_no_space site ls, tt));
    }
words_again shape NoPoll ok h =
    record {
      says_line = refl;
      spaces = ((refl, (refl, (refl, (refl, (refl, (refl, tt)))))), tt);
    }
words_again shape (Bad site) ok h =
    let ls = site_below shape site ok h.ranges in
    record {
      says_line = one_again (in_trace_range shape) Bad site ls h.ranges;
      spaces = ((refl, (refl, (refl, tt))), (decimal_no_space site ls, tt));
    }
words_again shape (End turns) ok h =
    let lt = ltb-true turns (2 ^ 64) h.ranges in
    record {
      says_line = one_again (in_trace_range shape) End turns lt h.ranges;
      spaces = ((refl, (refl, (refl, tt))), (decimal_no_space turns lt, tt));
    }

pub trace_written_is_read : TraceWrittenIsRead
trace_written_is_read shape line ok h = by_name line (words_again shape line ok h)
  where
    by_name : (line : TraceLine) → AreWords TraceLine (trace_said shape) (trace_words_of line) line → trace_read shape (trace_encoding_of line) ≡ Parsed line
    by_name (Node site) words = again (trace_said shape) (trace_words_of (Node site)) (Node site) _ _ _ _ refl refl words
    by_name (Open coord) words = again (trace_said shape) (trace_words_of (Open coord)) (Open coord) _ _ _ _ refl refl words
    by_name (Bytes coord session bytes) words = again (trace_said shape) (trace_words_of (Bytes coord session bytes)) (Bytes coord session bytes) _ _ _ _ refl refl words
    by_name (Close coord session) words = again (trace_said shape) (trace_words_of (Close coord session)) (Close coord session) _ _ _ _ refl refl words
    by_name (Tick actor clock) words = again (trace_said shape) (trace_words_of (Tick actor clock)) (Tick actor clock) _ _ _ _ refl refl words
    by_name (Take frame) words = again (trace_said shape) (trace_words_of (Take frame)) (Take frame) _ _ _ _ refl refl words
    by_name (Forward part origin) words = again (trace_said shape) (trace_words_of (Forward part origin)) (Forward part origin) _ _ _ _ refl refl words
    by_name (Lost site) words = again (trace_said shape) (trace_words_of (Lost site)) (Lost site) _ _ _ _ refl refl words
    by_name (Bad site) words = again (trace_said shape) (trace_words_of (Bad site)) (Bad site) _ _ _ _ refl refl words
    by_name (End turns) words = again (trace_said shape) (trace_words_of (End turns)) (End turns) _ _ _ _ refl refl words
    by_name Lead words = name_again (trace_said shape) Lead _ _ refl words
    by_name NoPoll words = name_again (trace_said shape) NoPoll _ _ refl words

pub trace_read_is_written : TraceReadIsWritten
trace_read_is_written shape text line e =
    let r = trace_said_is_read shape (split_words text) line (found_is (trace_said shape (split_words text)) line (not_none (is_skipped text) (read_of (trace_said shape (split_words text))) line e)) in
    let encoded = ap (map lower_digit) (sym (join_with_byte-slice_split 32 text)) ∙ lower_joined (split_words text) ∙ ap (join_with_byte 32) r.encoded in
    (encoded, r.allowed)
