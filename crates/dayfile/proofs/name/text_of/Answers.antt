use Rattle.std.proofs.Common.{◌≡◌, ℕ, true, leb, List, [], ◌∷◌, IsAscii, sym, ◌∙◌, arith}
use Rattle.std.proofs.lemmas.Str.Ascii.{IsAscii-nil, IsAscii-cons}
use Rattle.std.proofs.lemmas.Bool.{and_parts, leb-true}
use Rattle.std.proofs.lemmas.Str.{IsUtf8-from_ascii}
use Rattle.dayfile.specs.Names.{is_printable, is_text}
use Rattle.dayfile.proofs.name.text_of.Goals as goal

-- printable bytes are ASCII, so they are text
ascii : (bs : List ℕ) → is_text bs ≡ true → IsAscii bs
ascii [] h = IsAscii-nil
ascii (b ∷ bs) h =
    let (here, rest) = and_parts (is_printable b) (is_text bs) h in
    let high = leb-true b 126 (and_parts (leb 32 b) (leb b 126) here).1 in
    IsAscii-cons b bs (omega arith) (ascii bs rest)

pub unreachable-requires : goal.unreachable-requires
unreachable-requires c =
    c.in-Err.ensures.cases.0 (IsUtf8-from_ascii c.args.bytes.now (ascii c.args.bytes.now (sym c.is_text.ensures ∙ c.if-not-is_text.false)))
