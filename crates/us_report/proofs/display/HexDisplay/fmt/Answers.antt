use Rattle.std.proofs.Common.{rules, refl, sym, ◌+◌, ◌<◌, [], ◌∷◌, ◌++◌, take, get_or, arith}
use Rattle.std.proofs.Output.{has_written_append, has_written_of_eq}
use Rattle.hex.specs.Hex.{encode_lower}
use Rattle.us_report.proofs.HexText.{encode_lower-nil, encode_lower-more, shown_byte}
use Rattle.us_report.proofs.display.HexDisplay.fmt.Goals as goal

pub loop-byte-init : goal.loop-byte-init
loop-byte-init g c = λ p. has_written_of_eq _ _ _ _ _ (sym encode_lower-nil) (search rules)

pub loop-byte-preserved : goal.loop-byte-preserved
loop-byte-preserved g c = λ p.
    let took = g.W.Write.write_str_gives in
    let xs = c.args.self.now.0.now in
    let i = c.loop-byte.byte-index in
    let byte = get_or xs i 0 in
    let front = encode_lower (take i xs) in
    let after = c.write.new.self in
    let small : byte < 256 = omega arith in
    let so_far = c.loop-byte.invariant p in
    let writes = rw (c.laid_out.ensures, shown_byte byte _ c.in_radix.ensures small) at c.write.ensures.writes in
    has_written_of_eq took c.args.f.now (front ++ encode_lower (byte ∷ [])) (encode_lower (take (i + 1) xs)) after (encode_lower-more xs i byte c.loop-byte-test.true refl)
    (has_written_append took c.args.f.now front c.loop-byte.f (encode_lower (byte ∷ [])) after so_far (writes so_far.plain (search rules)))
