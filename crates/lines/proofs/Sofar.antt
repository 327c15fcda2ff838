-- What was printed so far, and what each answer of the reader adds to it.
use Rattle.std.proofs.Common.{◌≡◌, ℕ, ◌+◌, ◌-◌, ◌<◌, List, [], ◌∷◌, ◌++◌, length, Some, None, Ok, Err, Option, sym, refl, ap, ◌∙◌, subst, append_assoc, append-nil, arith}
use Rattle.std.specs.List.{zip}
use Rattle.refusals.specs.Runs.{Ran}
use Rattle.dayfile.specs.declared.fault.Position.{Position}
use Rattle.dayfile.specs.declared.fault.RecordFault.{RecordFault}
use Rattle.dayfile.specs.declared.fault.RecordFault.TheVariants.{File, BadName}
use Rattle.dayfile.specs.declared.reader.Reader.{Reader}
use Rattle.dayfile.specs.declared.record.Record.{Record}
use Rattle.dayfile.specs.Faults.{place, record_number, record_position}
use Rattle.dayfile.specs.Records.{Rec, view}
use Rattle.dayfile.specs.Reading.{Step, end, got, bad, stands, here, place_of, Follows, Next, Fresh, Reads, ends, faulty, misnamed, goes}
use Rattle.session.specs.Days.{Day, beginning}
use Rattle.lines.specs.Lines.{fault_line}
use Rattle.lines.specs.Listing.{Lists, Got, TurnsAndTells, turn_line, lines_of, ended}

abbrev pub line_of_fault : RecordFault → List ℕ
line_of_fault f = fault_line (record_number f) (record_position f)

-- Whatever the rest of the file reads as, and however the day goes on over it, its lines after those that are out are those of the
-- whole file.
pub record Sofar (file : List ℕ) (s : Reader) (d : Day) (out : List ℕ) : Type 0 where
  pub bytes : s.file.now ≡ file
  pub rest : (xs : List (Position × Rec)) (rs : List Got) (f : Option RecordFault) (e : Day) → Reads file (s.count + 1) s.offset xs f → Ran TurnsAndTells d xs rs e
      → Lists file (out ++ lines_of (zip xs rs) f)

pub start : (file : List ℕ) (s : Reader) (d : Day) (out : List ℕ) → Fresh file s → d ≡ beginning → out ≡ [] → Sofar file s d out
start file s d out fresh begun none = record {
  bytes = fresh.file;
  rest =
      λ xs rs f e r t.
      let first : s.count + 1 ≡ 1 = omega (arith, fresh.count) in
      record {
        records = xs;
        fault = f;
        answers = rs;
        end = e;
        reads = subst (λ n. Reads file n 0 xs f) first (subst (λ p. Reads file (s.count + 1) p xs f) fresh.offset r);
        runs = subst (λ (b : Day). Ran TurnsAndTells b xs rs e) begun t;
        lines = λ i. none i ++ lines_of (zip xs rs) f;
      };
}

module _ (file : List ℕ) (s t : Reader) (d : Day) (out : List ℕ) (so : Sofar file s d out) where
  stands_at : (k : Step) → here s ≡ k → stands file (place (s.count + 1) s.offset) ≡ k
  stands_at k e = ap (λ b. stands b (place (s.count + 1) s.offset)) (sym so.bytes) ∙ e

  done' : (k : Step) → here s ≡ k → Follows k s (Ok None) t → Lists file out
  done' end e h = subst (Lists file) (append-nil out) (so.rest [] [] None d (ends (stands_at end e)) Ran.none)
  done' (got x q) e h = absurd h
  done' (bad f) e h = absurd (cc)

  pub done : Next s (Ok None) t → Lists file out
  done h = done' (here s) refl h

  stopped' : (k : Step) → here s ≡ k → (f : RecordFault) → Follows k s (Err f) t → Lists file (out ++ ended (line_of_fault f))
  stopped' end e f h = absurd (cc)
  stopped' (got x q) e f h =
      subst (λ g. Lists file (out ++ ended (line_of_fault g))) (sym h.1)
      (so.rest [] [] (Some (BadName (place (s.count + 1) s.offset))) d (misnamed x q (stands_at (got x q) e) h.0) Ran.none)
  stopped' (bad g) e f h =
      let is = h.0 in
      let same : f ≡ File g = cc in
      subst (λ r. Lists file (out ++ ended (line_of_fault r))) (sym same) (so.rest [] [] (Some (File g)) d (faulty g (stands_at (bad g) e)) Ran.none)

  pub stopped : (f : RecordFault) → Next s (Err f) t → Lists file (out ++ ended (line_of_fault f))
  stopped f h = stopped' (here s) refl f h

  -- the lines of the record that the reader gave
  abbrev line : Rec → Got → List ℕ
  line x g = turn_line (place_of s, x) g

  more' : (k : Step) → here s ≡ k → (y : Record) (r : Got) (e : Day) → Follows k s (Ok (Some y)) t → TurnsAndTells d (place_of s, view y) r e
      → Sofar file t e (out ++ ended (line (view y) r))
  more' end at y r e h p = absurd (cc)
  more' (got x q) at y r e h p =
      let next : t.count + 1 ≡ s.count + 1 + 1 = omega (arith, h.2.count) in
      record {
        bytes = h.2.file ∙ so.bytes;
        rest =
            λ xs rs f last reads runs.
            let from = subst (λ n. Reads file n q xs f) next (subst (λ p. Reads file (t.count + 1) p xs f) h.2.offset reads) in
            let performs = subst (λ (z : Rec). TurnsAndTells d (place_of s, z) r e) h.1 p in
            let same = append_assoc out (ended (line (view y) r)) (lines_of (zip xs rs) f) ∙ (λ i. out ++ (ended (line (h.1 i) r) ++ lines_of (zip xs rs) f)) in
            subst (Lists file) (sym same) (so.rest ((place_of s, x) ∷ xs) (r ∷ rs) f last (goes x q (stands_at (got x q) at) h.0 from) (Ran.more performs runs));
      }
  more' (bad f) at y r e h p = absurd (cc)

  pub more : (y : Record) (r : Got) (e : Day) → Next s (Ok (Some y)) t → TurnsAndTells d (place_of s, view y) r e
      → Sofar file t e (out ++ ended (turn_line (place_of s, view y) r))
  more y r e h p = more' (here s) refl y r e h p

  counts : (k : Step) (y : Record) → Follows k s (Ok (Some y)) t → t.count ≡ s.count + 1
  counts end y h = absurd (cc)
  counts (got x q) y h = h.2.count
  counts (bad f) y h = absurd (cc)

  -- each record has two bytes at least, so there are fewer records than bytes
  pub falls : (y : Record) → Next s (Ok (Some y)) t → t.file.now ≡ file → length file - t.count < length file - s.count
  falls y h same = omega (arith, counts (here s) y h, ap length same, t.counted, t.within)
