-- Texts that are copied as a fixed number of bytes at once.
use Rattle.std.proofs.Common.{◌≡◌, ◌≤◌, ◌+◌, ◌-◌, ℕ, List, [], ◌∷◌, ◌++◌, length, take, drop, replicate, refl, ap, sym, ◌∙◌, append-nil, append_assoc, length-drop, arith, drop-drop, drop_at, length-append, length-take-le, take-append-drop, take-take, take_at, take-add}
use Rattle.std.proofs.lemmas.{List.drop-append-le, List.length-replicate, List.take-append-le, List.Edits.take-paste, Simd.put_chunk_is}
use Rattle.std.proofs.Math.Seq.{drop-append-add, take-append-add}
use Rattle.exectrace.specs.Sink.{Tape, Adds, Puts}
use Rattle.execlog.proofs.Laying.{spaces_taken}
use Rattle.execlog.specs.Rows.{IsSheet}
use lib.Lanes.{put_chunk}
use lib.Seq.{paste}

-- ---- writing over bytes

-- what is kept after a place is kept after a later one
pub kept_after : (n m : ℕ) (new old : List ℕ) → n ≤ m → drop n new ≡ drop n old → drop m new ≡ drop m old
kept_after n m new old le same =
    let whole : m ≡ n + (m - n) = omega (arith, le) in
    ap (λ (k : ℕ). drop k new) whole
    ∙ sym (drop-drop (m - n) n new)
    ∙ ap (drop (m - n)) same
    ∙ drop-drop (m - n) n old
    ∙ ap (λ (k : ℕ). drop k old) (sym whole)

-- what is after bytes that were stored is kept
pub kept_after_store : (at : ℕ) (room text : List ℕ) → at + length text ≤ length room → drop (at + length text) (put_chunk at room text) ≡ drop (at + length text) room
kept_after_store at room text within =
    let n : ℕ = length text in
    let before : List ℕ = take at room in
    let first : length before ≡ at = length-take-le at room (omega (arith, within)) in
    let end : at + n ≡ length before + n = omega (arith, first) in
    ap (drop (at + n)) (put_chunk_is at room text within)
    ∙ ap (λ (k : ℕ). drop k (before ++ (text ++ drop n (drop at room)))) end
    ∙ drop-append-add before (text ++ drop n (drop at room)) n
    ∙ drop_at text (drop n (drop at room)) n refl
    ∙ drop-drop n at room

-- the first cells, with a text over those from a place on
pub pushed_over : (old cells new text : List ℕ) (at len : ℕ) → at + length text ≤ len → take (at + length text) new ≡ take at cells ++ text
    → drop (at + length text) new ≡ drop (at + length text) cells
    → take (length old + len) (old ++ new) ≡ old ++ (take at cells ++ (text ++ take (len - (at + length text)) (drop (at + length text) cells)))
pushed_over old cells new text at len within first rest =
    let n : ℕ = at + length text in
    let whole : len ≡ n + (len - n) = omega (arith, within) in
    take-append-add old new len
    ∙ ap (λ (l : List ℕ). old ++ l)
    (ap (λ (k : ℕ). take k new) whole
    ∙ take-add n (len - n) new
    ∙ ap (λ (l : List ℕ). l ++ take (len - n) (drop n new)) first
    ∙ ap (λ (l : List ℕ). (take at cells ++ text) ++ take (len - n) l) rest
    ∙ append_assoc (take at cells) text (take (len - n) (drop n cells)))

-- cells that are written over a row from a place on, and a text over them
pub row_written : (row mid new cells text : List ℕ) (wide at len : ℕ) → wide ≤ length row → length cells ≡ 96 → at + length text ≤ len → len ≤ 96
    → take (wide + length cells) mid ≡ take wide row ++ cells
    → take (wide + at + length text) new ≡ take (wide + at) mid ++ text
    → drop (wide + at + length text) new ≡ drop (wide + at + length text) mid
    → take (wide + len) new ≡ take wide row ++ (take at cells ++ (text ++ take (len - (at + length text)) (drop (at + length text) cells)))
row_written row mid new cells text wide at len inside many within few first second rest =
    let n : ℕ = at + length text in
    let p : List ℕ = take wide row in
    let z : List ℕ = drop (wide + length cells) mid in
    let long : length p ≡ wide = length-take-le wide row inside in
    let all : mid ≡ p ++ (cells ++ z) =
    sym (take-append-drop (wide + length cells) mid) ∙ ap (λ (l : List ℕ). l ++ z) first ∙ append_assoc p cells z in
    let at' : wide + at ≡ length p + at = omega (arith, long) in
    let n' : wide + at + length text ≡ length p + n = omega (arith, long) in
    let before : take (wide + at) mid ≡ p ++ take at cells =
    ap (take (wide + at)) all
    ∙ ap (λ (k : ℕ). take k (p ++ (cells ++ z))) at'
    ∙ take-append-add p (cells ++ z) at
    ∙ ap (λ (l : List ℕ). p ++ l) (take-append-le at cells z (omega (arith, many, within, few))) in
    let after : drop (wide + at + length text) mid ≡ drop n cells ++ z =
    ap (drop (wide + at + length text)) all
    ∙ ap (λ (k : ℕ). drop k (p ++ (cells ++ z))) n'
    ∙ drop-append-add p (cells ++ z) n
    ∙ drop-append-le n cells z (omega (arith, many, within, few)) in
    let fits : wide + at + length text ≤ wide + len = omega (arith, within) in
    let left : wide + len - (wide + at + length text) ≡ len - n = omega (arith, within) in
    let none : wide + len ≡ 0 + (wide + len) = omega arith in
    ap (λ (k : ℕ). take k new) none
    ∙ pushed_over [] mid new text (wide + at) (wide + len) fits second rest
    ∙ ap (λ (l : List ℕ). l ++ (text ++ take (wide + len - (wide + at + length text)) (drop (wide + at + length text) mid))) before
    ∙ ap (λ (l : List ℕ). (p ++ take at cells) ++ (text ++ take (wide + len - (wide + at + length text)) l)) after
    ∙ ap (λ (k : ℕ). (p ++ take at cells) ++ (text ++ take k (drop n cells ++ z))) left
    ∙ ap (λ (l : List ℕ). (p ++ take at cells) ++ (text ++ l))
    (take-append-le (len - n) (drop n cells) z (omega (arith, length-drop n cells, many, few)))
    ∙ append_assoc p (take at cells) (text ++ take (len - n) (drop n cells))

-- a line that is written over the spaces of a sheet is within what is around it
pub sheet_row : {before after cells : List ℕ} {at len : ℕ} (gap : ℕ) (text : List ℕ) → IsSheet before after cells at len → length text ≤ gap
    → at + length text ≤ len
    → take at cells ++ (text ++ take (len - (at + length text)) (drop (at + length text) cells))
    ≡ before ++ (text ++ drop (gap - (gap - length text)) after)
sheet_row {before} {after} {cells} {at} {len} gap text sheet few within =
    let n : ℕ = length text in
    let z : List ℕ = drop len cells in
    let all : cells ≡ before ++ (after ++ z) =
    sym (take-append-drop len cells) ∙ ap (λ (l : List ℕ). l ++ z) sheet.cells_are ∙ append_assoc before after z in
    let first : take at cells ≡ before = ap (take at) all ∙ take_at before (after ++ z) at (sym sheet.at_is) in
    let inside : n ≤ length after = omega (arith, within, sheet.at_is, sheet.len_is) in
    let rest : drop (at + n) cells ≡ drop n after ++ z =
    ap (λ (l : List ℕ). drop (at + n) l) all
    ∙ ap (λ (k : ℕ). drop (k + n) (before ++ (after ++ z))) sheet.at_is
    ∙ drop-append-add before (after ++ z) n
    ∙ drop-append-le n after z inside in
    let long : length (drop n after) ≡ len - (at + n) = omega (arith, length-drop n after, sheet.at_is, sheet.len_is, within) in
    let taken : n ≡ gap - (gap - n) = omega (arith, few) in
    ap (λ (l : List ℕ). l ++ (text ++ take (len - (at + n)) (drop (at + n) cells))) first
    ∙ ap (λ (l : List ℕ). before ++ (text ++ take (len - (at + n)) l)) rest
    ∙ ap (λ (l : List ℕ). before ++ (text ++ l)) (take_at (drop n after) z (len - (at + n)) long)
    ∙ ap (λ (k : ℕ). before ++ (text ++ drop k after)) taken

-- ---- the columns

module _ (room cols rest : List ℕ) (start : ℕ) (shows : drop start room ≡ cols ++ rest) where
  -- how long they are
  pub columns_length : (end : ℕ) → length room ≡ end + length rest → start ≤ end → length cols ≡ end - start
  columns_length end whole within =
      let parts : length (drop start room) ≡ length (cols ++ rest) = ap length shows in
      omega (arith, parts, length-drop start room, length-append cols rest, whole, within)

  pub columns_taken : (n : ℕ) → length cols ≡ n → take n (drop start room) ≡ cols
  columns_taken n long = ap (take n) shows ∙ take_at cols rest n long

-- what is written in two parts
pub two_parts : (old mid new cells rest : List ℕ) (at n : ℕ) → n ≤ length cells → rest ≡ drop n cells
    → take (at + length (take n cells)) mid ≡ take at old ++ take n cells → take (at + n + length rest) new ≡ take (at + n) mid ++ rest
    → take (at + length cells) new ≡ take at old ++ cells
two_parts old mid new cells rest at n few is one two =
    let first : length (take n cells) ≡ n = length-take-le n cells few in
    let end : at + n ≡ at + length (take n cells) = omega (arith, first) in
    let whole : at + length cells ≡ at + n + length rest = omega (arith, few, ap length is, length-drop n cells) in
    ap (λ (k : ℕ). take k new) whole
    ∙ two
    ∙ ap (λ (k : ℕ). take k mid ++ rest) end
    ∙ ap (λ (l : List ℕ). l ++ rest) one
    ∙ append_assoc (take at old) (take n cells) rest
    ∙ ap (λ (l : List ℕ). take at old ++ (take n cells ++ l)) is
    ∙ ap (λ (l : List ℕ). take at old ++ l) (take-append-drop n cells)

-- a text and a line feed after columns and an empty column of a line
pub bare_written : (old row mid new cols text : List ℕ) (at : ℕ) → at + length text ≤ length mid → take at row ≡ old ++ (cols ++ replicate {A = ℕ} 8 32)
    → take (at + length text) mid ≡ take at row ++ text → new ≡ take (at + length text) mid ++ 10 ∷ drop (at + length text + 1) mid
    → take (at + length text + 1) new ≡ old ++ (cols ++ (replicate {A = ℕ} 8 32 ++ (text ++ 10 ∷ [])))
bare_written old row mid new cols text at within head put ended =
    let end : ℕ = at + length text in
    let spaces : List ℕ = replicate {A = ℕ} 8 32 in
    let feed : List ℕ = 10 ∷ [] in
    let first : length (take end mid) ≡ end = length-take-le end mid within in
    let whole : end + 1 ≡ length (take end mid) + 1 = omega (arith, first) in
    ap (take (end + 1)) ended
    ∙ ap (λ (k : ℕ). take k (take end mid ++ 10 ∷ drop (end + 1) mid)) whole
    ∙ take-append-add (take end mid) (10 ∷ drop (end + 1) mid) 1
    ∙ ap (λ (l : List ℕ). l ++ feed) (put ∙ ap (λ (l : List ℕ). l ++ text) head)
    ∙ append_assoc (old ++ (cols ++ spaces)) text feed
    ∙ append_assoc old (cols ++ spaces) (text ++ feed)
    ∙ ap (λ (l : List ℕ). old ++ l) (append_assoc cols spaces (text ++ feed))

-- columns that are copied with spaces after them
pub columns_written : (old new cols text : List ℕ) (from wide k n : ℕ) → from ≤ length old → length cols ≡ wide → n ≤ 64 → wide + k ≤ n
    → text ≡ take n (cols ++ replicate {A = ℕ} 128 32) → take (from + length text) new ≡ take from old ++ text
    → take (from + (wide + k)) new ≡ take from old ++ (cols ++ replicate {A = ℕ} k 32)
columns_written old new cols text from wide k n inside long few within is put =
    let spaces : List ℕ = replicate {A = ℕ} 128 32 in
    let many : n ≤ length (cols ++ spaces) = omega (arith, length-append cols spaces, length-replicate {A = ℕ} 128 32, few) in
    let size : length text ≡ n = ap length is ∙ length-take-le n (cols ++ spaces) many in
    let first : length (take from old) ≡ from = length-take-le from old inside in
    let below : from + (wide + k) ≤ from + length text = omega (arith, size, within) in
    let at : from + (wide + k) ≡ length (take from old) + (wide + k) = omega (arith, first) in
    let at' : wide + k ≡ length cols + k = omega (arith, long) in
    let few' : k ≤ 128 = omega (arith, few, within) in
    sym (take-take (from + (wide + k)) (from + length text) new below)
    ∙ ap (take (from + (wide + k))) put
    ∙ ap (λ (i : ℕ). take i (take from old ++ text)) at
    ∙ take-append-add (take from old) text (wide + k)
    ∙ ap (λ (l : List ℕ). take from old ++ l)
    (ap (take (wide + k)) is
    ∙ take-take (wide + k) n (cols ++ spaces) within
    ∙ ap (λ (i : ℕ). take i (cols ++ spaces)) at'
    ∙ take-append-add cols spaces k
    ∙ ap (λ (l : List ℕ). cols ++ l) (spaces_taken k 128 few'))

-- the first ones of the bytes that are kept are put, and the others are moved to their place
pub first_put : {a b : Tape} (cells : List ℕ) (first len : ℕ) → first ≤ len → len ≤ length cells → Puts a b (take first cells)
    → Adds a b (take len cells) (take (len - first) (paste cells 0 (drop first cells) (len - first))) []
first_put cells first len few within puts =
    let rest : ℕ = len - first in
    let whole : len ≡ first + rest = omega (arith, few) in
    let many : rest ≤ length (drop first cells) = omega (arith, length-drop first cells, within) in
    let start : 0 ≤ length cells = omega arith in
    let none : rest ≡ 0 + rest = omega arith in
    let kept : take rest (paste cells 0 (drop first cells) rest) ≡ take rest (drop first cells) =
    ap (λ (k : ℕ). take k (paste cells 0 (drop first cells) rest)) none ∙ take-paste cells 0 (drop first cells) rest start many in
    record {
      handed = take first cells;
      puts = puts;
      whole = append-nil (take len cells)
          ∙ ap (λ (k : ℕ). take k cells) whole
          ∙ take-add first rest cells
          ∙ ap (λ (l : List ℕ). take first cells ++ l) (sym kept);
    }
