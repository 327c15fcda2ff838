use Rattle.std.proofs.Common.{◌≡◌, ℕ, List, [], ◌∷◌, ◌++◌, string_bytes, String, sym, ap, ◌∙◌, subst, append_assoc}
use Rattle.std.specs.declared.alloc.Global.{Global}
use Rattle.session.specs.Days.{day_of}
use Rattle.lines.specs.Listing.{Lists, ended}
use Rattle.lines.proofs.Sofar.{Sofar, line_of_fault, start, done, stopped, more, falls}
use Rattle.lines.proofs.listing.listing.Goals as goal
use Rattle.lines.proofs.listing.listing.Goals.{After-drop-line-in-Ok-Some}

pub lines-init : goal.lines-init
lines-init c = start c.args.file.now c.new-reader.result _ _ c.new-reader.ensures c.in_ok-session.ensures c.new-out.ensures.bytes

-- a line that was added
added : (out : String Global) (text line : List ℕ) → text ≡ line → ended (string_bytes out ++ text) ≡ string_bytes out ++ ended line
added out text line e = append_assoc (string_bytes out) text (10 ∷ []) ∙ ap (λ l. string_bytes out ++ ended l) e

turn : (c : After-drop-line-in-Ok-Some)
    → Sofar c.args.file.now c.next_line.new.reader (day_of c.next_line.new.session) (string_bytes c.lines.out ++ ended (string_bytes c.in-Ok-Some.line))
turn c =
    let (y, r, next, performs, line) = rw c.in-Ok-Some.field-0-is at c.in-Ok-Some.ensures in
    subst (λ l. Sofar c.args.file.now c.next_line.new.reader (day_of c.next_line.new.session) (string_bytes c.lines.out ++ ended l)) (sym line)
    (more c.args.file.now c.lines.reader c.next_line.new.reader (day_of c.lines.session) (string_bytes c.lines.out) c.lines.invariant y r (day_of c.next_line.new.session) next performs)

pub lines-preserved : goal.lines-preserved
lines-preserved c =
    subst (Sofar c.args.file.now c.next_line.new.reader (day_of c.next_line.new.session)) (sym (c.in_ok-push_line-in-Ok-Some.ensures ∙ added c.lines.out _ _ c.as_str.ensures.value)) (turn c)

pub lines-smaller : goal.lines-smaller
lines-smaller c =
    let (y, r, next, performs, line) = rw c.in-Ok-Some.field-0-is at c.in-Ok-Some.ensures in
    falls c.args.file.now c.lines.reader c.next_line.new.reader (day_of c.lines.session) (string_bytes c.lines.out) c.lines.invariant y next (turn c).bytes

pub returns-in-Ok-None : goal.returns-in-Ok-None
returns-in-Ok-None c =
    done c.args.file.now c.lines.reader c.next_line.new.reader (day_of c.lines.session) (string_bytes c.lines.out) c.lines.invariant (rw c.in-Ok-None.field-0-is at c.in-Ok-None.ensures)

pub returns-in-Err-Fault : goal.returns-in-Err-Fault
returns-in-Err-Fault c =
    let line = c.in_ok-push_line-in-Err-Fault.ensures ∙ added c.lines.out _ _ (c.as_str-in-Err-Fault.ensures.value ∙ c.in_ok-fault_line-in-Err-Fault.ensures ∙ ap line_of_fault c.in-Err-Fault.fault-is) in
    subst (Lists c.args.file.now) (sym line)
    (stopped c.args.file.now c.lines.reader c.next_line.new.reader (day_of c.lines.session) (string_bytes c.lines.out) c.lines.invariant c.in-Err-Fault.fault (rw c.in-Err-Fault.field-0-is at c.in-Err-Fault.ensures))
