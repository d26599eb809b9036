-- The lines of a schedule, one after another.
use Rattle.std.proofs.Common.{◌≡◌, ℕ, ◌+◌, Bool, true, false, List, ◌∷◌, ◌++◌, Option, Some, None, refl, sym, ap, ◌∙◌, append_assoc, ◌≤◌, length}
use Rattle.std.proofs.Common.{length-append, arith}
use Rattle.std.specs.List.{position_from}
use Rattle.std.proofs.lemmas.List.{append-nil}
use Rattle.us_base.specs.declared.shape.Shape.{Shape}
use Rattle.us_world.specs.declared.fault.Numbered.{Numbered}
use Rattle.us_schedule.specs.Text.{text_lines, separator, Parted, IsParted}
use Rattle.us_schedule.proofs.Cuts.{lines_few}
use Rattle.unistore.specs.declared.status.Reason.{Reason}
use Rattle.unistore.specs.declared.schedule.Refusal.{Refusal}
use Rattle.unistore.specs.Schedule.{Said, Refuses, said, line_in, refusal_in, or_refused, refused_behind, unless_refused, lines_behind}

-- the first line doesn't pass
pub position_more : (p : List ℕ → Bool) (n : ℕ) (texts : List (List ℕ)) (text : List ℕ) (more : List (List ℕ)) → texts ≡ text ∷ more → p text ≡ false
    → position_from p n texts ≡ position_from p (n + 1) more
position_more p n texts text more e f = rw (e, f) refl

-- the first line passes
pub position_here : (p : List ℕ → Bool) (n : ℕ) (texts : List (List ℕ)) (text : List ℕ) (more : List (List ℕ)) → texts ≡ text ∷ more → p text ≡ true
    → position_from p n texts ≡ Some n
position_here p n texts text more e t = rw (e, t) refl

-- THE LINES BEHIND THE SEPARATOR
-- the first line isn't refused: its lines, and then those of the others
pub lines_more : (shape : Shape) (all done : List Numbered) (n : ℕ) (texts : List (List ℕ)) (text : List ℕ) (more : List (List ℕ))
    → all ≡ done ++ lines_behind shape n texts → texts ≡ text ∷ more
    → refusal_in n (said shape text) ≡ None → all ≡ (done ++ line_in n (said shape text)) ++ lines_behind shape (n + 1) more
lines_more shape all done n texts text more so_far e none =
    so_far ∙ ap (λ (ts : List (List ℕ)). done ++ lines_behind shape n ts) e
    ∙ ap (λ (o : Option Refusal). done ++ unless_refused o (line_in n (said shape text) ++ lines_behind shape (n + 1) more)) none
    ∙ sym (append_assoc done (line_in n (said shape text)) (lines_behind shape (n + 1) more))

pub refused_more : (shape : Shape) (n : ℕ) (texts : List (List ℕ)) (text : List ℕ) (more : List (List ℕ)) → texts ≡ text ∷ more
    → refusal_in n (said shape text) ≡ None
    → refused_behind shape n texts ≡ refused_behind shape (n + 1) more
refused_more shape n texts text more e none =
    ap (refused_behind shape n) e ∙ ap (λ (o : Option Refusal). or_refused o (refused_behind shape (n + 1) more)) none

-- the first line is refused: there are no more lines
pub lines_end : (shape : Shape) (all done : List Numbered) (n : ℕ) (texts : List (List ℕ)) (text : List ℕ) (more : List (List ℕ)) (reason : Reason)
    → all ≡ done ++ lines_behind shape n texts → texts ≡ text ∷ more
    → said shape text ≡ Refuses reason → all ≡ done
lines_end shape all done n texts text more reason so_far e refuses =
    so_far ∙ ap (λ (ts : List (List ℕ)). done ++ lines_behind shape n ts) e
    ∙ ap (λ (s : Said). done ++ unless_refused (refusal_in n s) (line_in n s ++ lines_behind shape (n + 1) more)) refuses
    ∙ append-nil done

pub refused_here : (shape : Shape) (n : ℕ) (texts : List (List ℕ)) (text : List ℕ) (more : List (List ℕ)) (reason : Reason) → texts ≡ text ∷ more
    → said shape text ≡ Refuses reason
    → refused_behind shape n texts ≡ Some (record { line = n; reason = reason })
refused_here shape n texts text more reason e refuses =
    ap (refused_behind shape n) e ∙ ap (λ (s : Said). or_refused (refusal_in n s) (refused_behind shape (n + 1) more)) refuses

-- the lines up to the separator and behind it are not more than the bytes
pub parts_few : (text : List ℕ) (parted : Parted) → IsParted text parted → parted.line + length (text_lines parted.behind) ≤ length text
parts_few text parted h =
    let few = lines_few text in
    let cut = ap length h.lines in
    let count = length-append (text_lines parted.before) (separator ∷ text_lines parted.behind) in
    let number = h.number in
    omega arith
