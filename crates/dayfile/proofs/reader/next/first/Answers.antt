use Rattle.std.proofs.Common.{◌≡◌, Some, Err, ap, ◌∙◌, rules}
use Rattle.dayfile.specs.declared.fault.FileFault.TheVariants.{CutShort}
use Rattle.dayfile.specs.Marks.{mark_of}
use Rattle.dayfile.specs.Records.{byte}
use Rattle.dayfile.specs.Reading.{seen}
use Rattle.dayfile.proofs.Begin.{whole, short}
use Rattle.dayfile.proofs.reader.next.first.Goals as goal

pub returns-in_err-record-in-len2-up-clause-begins :
    goal.returns-in_err-record-in-len2-up-clause-begins
returns-in_err-record-in-len2-up-clause-begins c =
    let bs = c.args.bytes.now in
    let is : Some c.in_ok-mark-in-len2-up.mark ≡ mark_of (byte bs 0) (byte bs 1) = search rules in
    let gives : c.from_residual-in_err-record-in-len2-up.result ≡ Err (CutShort c.args.position) = search rules in
    ap seen gives ∙ short c.args.position bs _ (search rules) is _ c.of_fields.ensures c.in_err-record-in-len2-up.ensures.ok_part

pub returns-in_ok-record-in-len2-up-clause-begins :
    goal.returns-in_ok-record-in-len2-up-clause-begins
returns-in_ok-record-in-len2-up-clause-begins c =
    let bs = c.args.bytes.now in
    let is : Some c.in_ok-mark-in-len2-up.mark ≡ mark_of (byte bs 0) (byte bs 1) = search rules in
    whole c.args.position bs _ (search rules) is _ _ _ c.of_fields.ensures c.in_ok-record-in-len2-up.ensures.ok_part
