-- How rows follow one another.
use Rattle.std.proofs.Common.{◌≡◌, ◌≤◌, ◌<◌, ◌-◌, ◌^◌, ◌/◌, ◌%◌, ◌+◌, ℕ, zero, suc, take, drop, length, replicate, Bool, true, List, [], ◌∷◌, ◌++◌, refl, ap, sym, ◌∙◌, subst, append-nil, append_assoc, length-drop, arith, ◌&&◌, codes, decimal, Option, None, flat_map, length-append, length-take-le, take-append-drop, take-take}
use Rattle.std.specs.List.{list_all}
use Rattle.std.proofs.lemmas.{Fmt.decimal_digit, Fmt.decimal_step, Fmt.length-decimal-le, List.drop-append-le, List.drop-replicate, List.length-replicate, List.nil_from_length, List.take-replicate}
use Rattle.execlog.proofs.Columns.{digit_replaced}
use Rattle.execlog.specs.Rows.{FollowsRows, IsBlank, IsCut, IsFrame, IsHead, IsPart, IsRow, LaysOut, Row, columns, digit, gap_of, laid, line_column, millis, padded, row_with, source_column, stem, time_columns, traced}
use Rattle.execlog.specs.{declared.moment.Moment.Moment, Log.Gains}

-- ---- spaces

pub spaces_taken : (n m : ℕ) → n ≤ m → take {A = ℕ} n (replicate {A = ℕ} m 32) ≡ replicate {A = ℕ} n 32
spaces_taken n m few = take-replicate n m 32 few

-- ---- room that is blank up to a place

-- it is blank up to an earlier one
pub blank_before : (a b : ℕ) (old new : List ℕ) → a ≤ b → take a new ≡ take a old → IsBlank b old → IsBlank a new
blank_before a b old new le same blank =
    same ∙ sym (take-take a b old le) ∙ ap (λ (l : List ℕ). take a l) blank ∙ spaces_taken a b le

-- the last of its spaces
pub blank_end : (k start : ℕ) (room : List ℕ) → k ≤ start → IsBlank start room → drop (start - k) room ≡ replicate {A = ℕ} k 32 ++ drop start room
blank_end k start room le blank =
    let long : start - k ≤ length (replicate {A = ℕ} start 32) = omega (arith, length-replicate {A = ℕ} start 32) in
    let many : start - (start - k) ≡ k = omega (arith, le) in
    ap (λ (l : List ℕ). drop (start - k) l) (sym (take-append-drop start room) ∙ ap (λ (l : List ℕ). l ++ drop start room) blank)
    ∙ drop-append-le (start - k) (replicate {A = ℕ} start 32) (drop start room) long
    ∙ ap (λ (l : List ℕ). l ++ drop start room) (drop-replicate (start - k) start 32 ∙ ap (λ (n : ℕ). replicate {A = ℕ} n 32) many)

-- a text at the right of a column
pub column_put : (k start width : ℕ) (text rest room : List ℕ) → k ≡ width - length text → k ≤ start → IsBlank start room
    → drop start room ≡ text ++ rest → drop (start - k) room ≡ padded width text ++ rest
column_put k start width text rest room is le blank put =
    blank_end k start room le blank
    ∙ ap (λ (l : List ℕ). replicate {A = ℕ} k 32 ++ l) put
    ∙ ap (λ (n : ℕ). replicate {A = ℕ} n 32 ++ (text ++ rest)) is
    ∙ sym (append_assoc (replicate {A = ℕ} (width - length text) 32) text rest)

-- a number after a colon at the right of a column
pub colon_put : (k colon start : ℕ) (text rest mid room : List ℕ) → k ≡ 4 - length text → k ≤ colon → IsBlank colon room
    → drop colon room ≡ 58 ∷ drop start mid → drop start mid ≡ text ++ rest
    → drop (colon - k) room ≡ replicate {A = ℕ} (4 - length text) 32 ++ 58 ∷ text ++ rest
colon_put k colon start text rest mid room is le blank first then =
    blank_end k colon room le blank
    ∙ ap (λ (l : List ℕ). replicate {A = ℕ} k 32 ++ l) (first ∙ ap (λ (l : List ℕ). 58 ∷ l) then)
    ∙ ap (λ (n : ℕ). replicate {A = ℕ} n 32 ++ (58 ∷ (text ++ rest))) is
    ∙ sym (append_assoc (replicate {A = ℕ} (4 - length text) 32) (58 ∷ text) rest)

-- the digits of a number
pub digits_fit : (n : ℕ) → n < 2 ^ 64 → length (decimal n) ≤ 20
digits_fit n small = length-decimal-le 20 n (omega arith) (omega arith) small

-- ---- what is around a line

-- the end of a row, whose line takes the place of spaces
cut_spaces : (w n : ℕ) (rest : List ℕ) → drop (w - (w - n)) (replicate {A = ℕ} w 32 ++ rest) ≡ replicate {A = ℕ} (w - n) 32 ++ rest
cut_spaces w n rest =
    let few : w - (w - n) ≤ length (replicate {A = ℕ} w 32) = omega (arith, length-replicate {A = ℕ} w 32) in
    let many : w - (w - (w - n)) ≡ w - n = omega arith in
    drop-append-le (w - (w - n)) (replicate {A = ℕ} w 32) rest few
    ∙ ap (λ (l : List ℕ). l ++ rest) (drop-replicate (w - (w - n)) w 32 ∙ ap (λ (k : ℕ). replicate {A = ℕ} k 32) many)

gap_short : (source : List ℕ) → gap_of source ≤ length (source_column 0 source ++ 10 ∷ [])
gap_short [] = omega arith
gap_short (c ∷ source) =
    let spaces : List ℕ = replicate {A = ℕ} 43 32 in
    omega (
      arith,
      length-append ((spaces ++ codes "  ") ++ c ∷ source) (10 ∷ []),
      length-append (spaces ++ codes "  ") (c ∷ source),
      length-append spaces (codes "  "),
      length-replicate {A = ℕ} 43 32,
    )

-- the spaces that a line takes the place of are there
pub gap_within : {line : Option ℕ} {source before after : List ℕ} {gap : ℕ} → IsFrame line source before after gap → gap ≤ length after
gap_within {line} {source} {before} {after} {gap} frame = omega (arith, frame.gap_is, ap length frame.after_is, gap_short source)

four_parts : (r x y z : List ℕ) → ((r ++ x) ++ y) ++ z ≡ r ++ (x ++ (y ++ z))
four_parts r x y z = append_assoc (r ++ x) y z ∙ append_assoc r x (y ++ z)

cut_parts : (w n : ℕ) (x y z : List ℕ)
    → drop (w - (w - n)) (((replicate {A = ℕ} w 32 ++ x) ++ y) ++ z) ≡ ((replicate {A = ℕ} (w - n) 32 ++ x) ++ y) ++ z
cut_parts w n x y z =
    ap (λ (l : List ℕ). drop (w - (w - n)) l) (four_parts (replicate {A = ℕ} w 32) x y z)
    ∙ cut_spaces w n (x ++ (y ++ z))
    ∙ sym (four_parts (replicate {A = ℕ} (w - n) 32) x y z)

end_cut : (n : ℕ) (source : List ℕ) → drop (gap_of source - (gap_of source - n)) (source_column 0 source ++ 10 ∷ []) ≡ source_column n source ++ 10 ∷ []
end_cut n [] = let none : 0 - (0 - n) ≡ 0 = omega arith in ap (λ (k : ℕ). drop {A = ℕ} k (10 ∷ [])) none
end_cut n (c ∷ source) = cut_parts 43 n (codes "  ") (c ∷ source) (10 ∷ [])

pub row_parts : (t l s x y z : List ℕ) → t ++ ((l ++ s) ++ (x ++ (y ++ z))) ≡ ((((t ++ l) ++ s) ++ x) ++ y) ++ z
row_parts t l s x y z =
    sym (append_assoc t (l ++ s) (x ++ (y ++ z)))
    ∙ ap (λ (f : List ℕ). f ++ (x ++ (y ++ z))) (sym (append_assoc t l s))
    ∙ sym (append_assoc ((t ++ l) ++ s) x (y ++ z))
    ∙ sym (append_assoc (((t ++ l) ++ s) ++ x) y z)

-- a line of the trace with what is around it is a row
pub row_framed : {line : Option ℕ} {source before after : List ℕ} {gap : ℕ} (m : Moment) (head text : List ℕ) → IsFrame line source before after gap
    → head ≡ time_columns m → head ++ (before ++ (text ++ drop (gap - (gap - length text)) after)) ≡ row_with m line text source
row_framed {line} {source} {before} {after} {gap} m head text frame told =
    let e : drop (gap - (gap - length text)) after ≡ source_column (length text) source ++ 10 ∷ [] =
    ap (λ (l : List ℕ). drop (gap - (gap - length text)) l) frame.after_is
    ∙ ap (λ (g : ℕ). drop (g - (g - length text)) (source_column 0 source ++ 10 ∷ [])) frame.gap_is
    ∙ end_cut (length text) source in
    ap (λ (h : List ℕ). h ++ (before ++ (text ++ drop (gap - (gap - length text)) after))) told
    ∙ ap (λ (b : List ℕ). time_columns m ++ (b ++ (text ++ drop (gap - (gap - length text)) after))) frame.before_is
    ∙ ap (λ (l : List ℕ). time_columns m ++ ((line_column line ++ codes "  ") ++ (text ++ l))) e
    ∙ row_parts (time_columns m) (line_column line) (codes "  ") text (source_column (length text) source) (10 ∷ [])

-- a line of the trace that is of no command
pub row_bare : (m : Moment) (head text : List ℕ) → head ≡ time_columns m → head ++ (replicate {A = ℕ} 8 32 ++ (text ++ 10 ∷ [])) ≡ row_with m None text []
row_bare m head text told =
    ap (λ (h : List ℕ). h ++ (replicate {A = ℕ} 8 32 ++ (text ++ 10 ∷ []))) told
    ∙ row_parts (time_columns m) (line_column None) (codes "  ") text [] (10 ∷ [])

-- the columns are those of an entry
pub told_by : (m : Moment) {number clock : ℕ} → number ≡ m.number → clock ≡ m.clock → columns number clock ≡ time_columns m
told_by m {number} {clock} n c = ap (λ (k : ℕ). columns k clock) n ∙ ap (λ (k : ℕ). columns m.number k) c

-- ---- the columns

-- what is before the last digit of a number at the right of a column, by the number without that digit
abbrev before_last : ℕ → ℕ → List ℕ
before_last width zero = replicate width 32
before_last width (suc n) = padded width (decimal (suc n))

padded_by : (width n tens : ℕ) → n / 10 ≡ tens → n < 2 ^ 64 → padded (suc width) (decimal n) ≡ before_last width tens ++ digit n ∷ []
padded_by width n zero e small =
    let few : n < 10 = omega (arith, e) in
    let same : n ≡ n % 10 = omega (arith, few) in
    let one : suc width - 1 ≡ width = omega arith in
    ap (padded (suc width)) (decimal_digit n few ∙ ap (λ (k : ℕ). (48 + k) ∷ []) same)
    ∙ ap (λ (k : ℕ). replicate {A = ℕ} k 32 ++ digit n ∷ []) one
padded_by width n (suc tens) e small =
    let many : 10 ≤ n = omega (arith, e) in
    let d : List ℕ = decimal (suc tens) in
    let last : List ℕ = (48 + n % 10) ∷ [] in
    let long : suc width - length (d ++ last) ≡ width - length d = omega (arith, length-append d last) in
    ap (padded (suc width)) (decimal_step n many small ∙ ap (λ (k : ℕ). decimal k ++ last) e)
    ∙ ap (λ (j : ℕ). replicate {A = ℕ} j 32 ++ (d ++ last)) long
    ∙ sym (append_assoc (replicate {A = ℕ} (width - length d) 32) d last)

stem_before : (n : ℕ) → before_last 4 n ≡ stem n
stem_before zero = refl
stem_before (suc n) = refl

-- a number at the right of a column is what is before its last digit, and this digit
pub padded_stem : (n : ℕ) → n < 2 ^ 64 → padded 5 (decimal n) ≡ stem (n / 10) ++ digit n ∷ []
padded_stem n small = padded_by 4 n (n / 10) refl small ∙ ap (λ (l : List ℕ). l ++ digit n ∷ []) (stem_before (n / 10))

-- what is before the last digit of a number that has two, by its last but one
stem_digit : (n : ℕ) → 0 < n → n < 2 ^ 64 → stem n ≡ before_last 3 (n / 10) ++ digit n ∷ []
stem_digit zero some small = absurd (omega (arith, some))
stem_digit (suc n) some small = padded_by 3 (suc n) (suc n / 10) refl small

-- the columns by what is before the last digit of the number
pub columns_stem : (n clock : ℕ) → n < 2 ^ 64 → columns n clock ≡ stem (n / 10) ++ digit n ∷ millis clock
columns_stem n clock small = ap (λ (l : List ℕ). l ++ millis clock) (padded_stem n small) ∙ append_assoc (stem (n / 10)) (digit n ∷ []) (millis clock)

-- with spaces after them
pub columns_room : (n clock : ℕ) (rest : List ℕ) → n < 2 ^ 64 → columns n clock ++ rest ≡ stem (n / 10) ++ digit n ∷ (millis clock ++ rest)
columns_room n clock rest small = ap (λ (l : List ℕ). l ++ rest) (columns_stem n clock small) ∙ append_assoc (stem (n / 10)) (digit n ∷ millis clock) rest

-- the columns, as they were put one after the other
pub head_made : (number clock from start : ℕ) (mid room : List ℕ) → number < 2 ^ 64 → length mid ≡ 192 → length room ≡ 192
    → drop from mid ≡ millis clock ++ replicate {A = ℕ} 128 32 → drop start room ≡ padded 5 (decimal number) ++ drop from mid
    → IsHead number clock (number / 10) start (from - 1) room
head_made number clock from start mid room small many roomy time put =
    let spaces : List ℕ = replicate {A = ℕ} 128 32 in
    let s : List ℕ = stem (number / 10) in
    let whole : drop start room ≡ s ++ digit number ∷ (millis clock ++ spaces) =
    put
    ∙ ap (λ (l : List ℕ). padded 5 (decimal number) ++ l) time
    ∙ ap (λ (l : List ℕ). l ++ (millis clock ++ spaces)) (padded_stem number small)
    ∙ append_assoc s (digit number ∷ []) (millis clock ++ spaces) in
    let long : 128 ≤ length (millis clock ++ spaces) = omega (arith, length-append (millis clock) spaces, length-replicate {A = ℕ} 128 32) in
    let after : 192 - from ≡ length (millis clock ++ spaces) = omega (arith, many, length-drop from mid, ap length time) in
    let parts : length (s ++ digit number ∷ (millis clock ++ spaces)) ≡ length s + suc (length (millis clock ++ spaces)) =
    length-append s (digit number ∷ (millis clock ++ spaces)) in
    let before : 192 - start ≡ length s + suc (length (millis clock ++ spaces)) = omega (arith, roomy, length-drop start room, ap length whole, parts) in
    record {
      small = small;
      roomy = roomy;
      tens_are = refl;
      starts = omega (arith, long, after, before);
      at_last = omega (arith, long, after, before);
      within = omega (arith, long, after, before);
      shows = whole;
    }

-- another last digit
pub head_counted : {n clock tens start last : ℕ} {room : List ℕ} (m : ℕ) (new : List ℕ) → IsHead n clock tens start last room → m / 10 ≡ tens → m < 2 ^ 64
    → new ≡ take last room ++ digit m ∷ drop (last + 1) room → IsHead m clock tens start last new
head_counted {n} {clock} {tens} {start} {last} {room} m new head same small put =
    let rest : List ℕ = millis clock ++ replicate {A = ℕ} 128 32 in
    let tens' : n / 10 ≡ m / 10 = sym head.tens_are ∙ sym same in
    let inside : start ≤ length room = omega (arith, head.starts, head.roomy) in
    let within : last ≤ length room = omega (arith, head.within, head.roomy) in
    let parts : length (take last room ++ digit m ∷ drop (last + 1) room) ≡ length (take last room) + suc (length (drop (last + 1) room)) =
    length-append (take last room) (digit m ∷ drop (last + 1) room) in
    record {
      small = small;
      roomy = omega (arith, ap length put, parts, length-take-le last room within, length-drop (last + 1) room, head.roomy, head.within);
      tens_are = sym same;
      starts = head.starts;
      at_last = head.at_last ∙ ap (λ (k : ℕ). start + length (stem k)) tens';
      within = head.within;
      shows = ap (drop start) put
          ∙ digit_replaced room (stem (n / 10)) rest (digit n) (digit m) start last inside head.at_last head.shows
          ∙ ap (λ (k : ℕ). stem k ++ digit m ∷ rest) tens';
    }

-- another last digit but one, and another last digit
pub head_counted_by_tens : {n clock tens start last : ℕ} {room : List ℕ} (m : ℕ) (mid new : List ℕ) → IsHead n clock tens start last room
    → m / 10 / 10 ≡ tens / 10 → 0 < tens → 0 < m / 10 → m < 2 ^ 64
    → mid ≡ take (last - 1) room ++ digit (m / 10) ∷ drop (last - 1 + 1) room
    → new ≡ take last mid ++ digit m ∷ drop (last + 1) mid → IsHead m clock (m / 10) start last new
head_counted_by_tens {n} {clock} {tens} {start} {last} {room} m mid new head same some some' small put then =
    let rest : List ℕ = millis clock ++ replicate {A = ℕ} 128 32 in
    let t : ℕ = n / 10 in
    let u : ℕ = m / 10 in
    let s : List ℕ = before_last 3 (t / 10) in
    let small_t : t < 2 ^ 64 = omega (arith, head.small) in
    let small_u : u < 2 ^ 64 = omega (arith, small) in
    let some_t : 0 < t = omega (arith, some, head.tens_are) in
    let tens' : u / 10 ≡ t / 10 = same ∙ ap (λ (k : ℕ). k / 10) head.tens_are in
    let old_stem : stem t ≡ s ++ digit t ∷ [] = stem_digit t some_t small_t in
    let new_stem : stem u ≡ s ++ digit u ∷ [] = stem_digit u some' small_u ∙ ap (λ (k : ℕ). before_last 3 k ++ digit u ∷ []) tens' in
    let long : length (stem t) ≡ length s + 1 = ap length old_stem ∙ length-append s (digit t ∷ []) in
    let long' : length (stem u) ≡ length s + 1 = ap length new_stem ∙ length-append s (digit u ∷ []) in
    let inside : start ≤ length room = omega (arith, head.starts, head.roomy) in
    let at : last - 1 ≡ start + length s = omega (arith, head.at_last, long) in
    let at' : last ≡ start + length (stem u) = omega (arith, head.at_last, long, long') in
    let before : drop start room ≡ s ++ digit t ∷ (digit n ∷ rest) =
    head.shows ∙ ap (λ (l : List ℕ). l ++ digit n ∷ rest) old_stem ∙ append_assoc s (digit t ∷ []) (digit n ∷ rest) in
    let between : drop start mid ≡ stem u ++ digit n ∷ rest =
    ap (drop start) put
    ∙ digit_replaced room s (digit n ∷ rest) (digit t) (digit u) start (last - 1) inside at before
    ∙ sym (append_assoc s (digit u ∷ []) (digit n ∷ rest))
    ∙ ap (λ (l : List ℕ). l ++ digit n ∷ rest) (sym new_stem) in
    let first : last - 1 ≤ length room = omega (arith, head.within, head.roomy) in
    let parts : length (take (last - 1) room ++ digit u ∷ drop (last - 1 + 1) room) ≡ length (take (last - 1) room) + suc (length (drop (last - 1 + 1) room)) =
    length-append (take (last - 1) room) (digit u ∷ drop (last - 1 + 1) room) in
    let roomy : length mid ≡ 192 =
    omega (arith, ap length put, parts, length-take-le (last - 1) room first, length-drop (last - 1 + 1) room, head.roomy, head.within) in
    let second : last ≤ length mid = omega (arith, head.within, roomy) in
    let parts' : length (take last mid ++ digit m ∷ drop (last + 1) mid) ≡ length (take last mid) + suc (length (drop (last + 1) mid)) =
    length-append (take last mid) (digit m ∷ drop (last + 1) mid) in
    let inside' : start ≤ length mid = omega (arith, head.starts, roomy) in
    record {
      small = small;
      roomy = omega (arith, ap length then, parts', length-take-le last mid second, length-drop (last + 1) mid, roomy, head.within);
      tens_are = refl;
      starts = head.starts;
      at_last = at';
      within = head.within;
      shows = ap (drop start) then ∙ digit_replaced mid (stem u) rest (digit n) (digit m) start last inside' at' between;
    }

-- ---- rows one after another

all_shown : (c d : Bool) → c ≡ true → d ≡ true → (c && d) ≡ true
all_shown c d first rest = rw (first) rest

-- a row, and the rows of what is after its line
pub row_follows : {All : Type 0} {m : Moment} {line : Option ℕ} {text after : List ℕ} (x y : List ℕ)
    → IsPart text → IsRow All m line text x → FollowsRows All m after y → FollowsRows All m (text ++ 10 ∷ after) (x ++ y)
row_follows {All} {m} {line} {text} {after} x y part one rest =
    let r : Row = record { line = line; text = text; source = one.source; is_shown = one.is_shown } in
    record {
      rows = r ∷ rest.rows;
      left = rest.left;
      text_is = ap (λ (z : List ℕ). text ++ 10 ∷ z) rest.text_is ∙ sym (append_assoc text (10 ∷ flat_map traced rest.rows) rest.left) ∙ ap (λ (z : List ℕ). z ++ rest.left) (sym (append_assoc text (10 ∷ []) (flat_map traced rest.rows)));
      bytes_are = ap (λ (z : List ℕ). z ++ y) one.bytes_are ∙ ap (λ (z : List ℕ). laid m r ++ z) rest.bytes_are ∙ sym (append_assoc (laid m r) (flat_map (laid m) rest.rows) rest.left);
      are_lines = (part, rest.are_lines);
      shown = λ all. all_shown one.is_shown (list_all (λ (r : Row). r.is_shown) rest.rows) (one.shown all) (rest.shown all);
      is_part = rest.is_part;
    }

-- a text with no line feed
pub part_follows : {All : Type 0} {m : Moment} (text : List ℕ) → IsPart text → FollowsRows All m text text
part_follows text part = record { rows = []; left = text; text_is = refl; bytes_are = refl; are_lines = tt; shown = λ all. refl; is_part = part }

-- the first row of an entry, and the others
pub first_row : {All : Type 0} {m : Moment} {line : Option ℕ} {text after : List ℕ} (x y : List ℕ)
    → IsPart text → IsRow All m line text x → FollowsRows All m after y → LaysOut All m line (text ++ 10 ∷ after) (x ++ y)
unfolding row_follows
first_row x y part one rest = record { follows = row_follows x y part one rest; begins = refl }

pub no_row : {All : Type 0} {m : Moment} {line : Option ℕ} (text : List ℕ) → IsPart text → LaysOut All m line text text
unfolding part_follows
no_row text part = record { follows = part_follows text part; begins = tt }

-- rows that are laid out after others
pub record Goes (All : Type 0) (m : Moment) (text rest before page : List ℕ) : Type 0 where
  pub added : List ℕ
  pub page_is : page ≡ before ++ added
  pub then : (y : List ℕ) → FollowsRows All m rest y → FollowsRows All m text (added ++ y)

-- none yet
pub goes_begin : (All : Type 0) (m : Moment) (text page : List ℕ) → Goes All m text text page page
goes_begin All m text page = record { added = []; page_is = sym (append-nil page); then = λ y h. h }

-- one more
pub goes_on : {All : Type 0} {m : Moment} {number : Option ℕ} {text rest line after before page next : List ℕ}
    → Goes All m text rest before page → IsCut rest line after → Gains (IsRow All m number line) page next → Goes All m text after before next
goes_on {All} {m} {number} {text} {rest} {line} {after} {before} {page} {next} goes cut gains = record {
  added = goes.added ++ gains.bytes;
  page_is = gains.added ∙ ap (λ (z : List ℕ). z ++ gains.bytes) goes.page_is ∙ append_assoc before goes.added gains.bytes;
  then = λ y h. subst (λ (z : List ℕ). FollowsRows All m text z) (sym (append_assoc goes.added gains.bytes y))
      (goes.then (gains.bytes ++ y) (subst (λ (r : List ℕ). FollowsRows All m r (gains.bytes ++ y)) (sym cut.text_is) (row_follows gains.bytes y cut.is_part gains.shows h)));
}

-- what is left after the last line feed
pub goes_end : {All : Type 0} {m : Moment} {text rest before page next : List ℕ}
    → Goes All m text rest before page → IsPart rest → next ≡ page ++ rest → Gains (FollowsRows All m text) before next
goes_end {All} {m} {text} {rest} {before} {page} {next} goes part added = record {
  bytes = goes.added ++ rest;
  shows = goes.then rest (part_follows rest part);
  added = added ∙ ap (λ (z : List ℕ). z ++ rest) goes.page_is ∙ append_assoc before goes.added rest;
}

-- the rows of an entry
pub lays_rows : {All : Type 0} {m : Moment} {number : Option ℕ} {text line after page first next : List ℕ}
    → IsCut text line after → Gains (IsRow All m number line) page first → Gains (FollowsRows All m after) first next
    → Gains (LaysOut All m number text) page next
lays_rows {All} {m} {number} {text} {line} {after} {page} {first} {next} cut one others = record {
  bytes = one.bytes ++ others.bytes;
  shows = subst (λ (t : List ℕ). LaysOut All m number t (one.bytes ++ others.bytes)) (sym cut.text_is) (first_row one.bytes others.bytes cut.is_part one.shows others.shows);
  added = others.added ∙ ap (λ (z : List ℕ). z ++ others.bytes) one.added ∙ append_assoc page one.bytes others.bytes;
}

pub lays_none : {All : Type 0} {m : Moment} {number : Option ℕ} {text page next : List ℕ}
    → IsPart text → next ≡ page ++ text → Gains (LaysOut All m number text) page next
lays_none {All} {m} {number} {text} part added = record { bytes = text; shows = no_row text part; added = added }

-- a text with no byte has no row
pub lays_nothing : {All : Type 0} {m : Moment} {number : Option ℕ} {text page : List ℕ} → length text ≡ 0 → Gains (LaysOut All m number text) page page
lays_nothing {All} {m} {number} {text} {page} none =
    subst (λ (t : List ℕ). Gains (LaysOut All m number t) page page) (sym (nil_from_length text none))
    (lays_none (λ k within. absurd (omega (arith, within))) (sym (append-nil page)))

pub lays_empty : {All : Type 0} {m : Moment} {number : Option ℕ} → LaysOut All m number [] []
lays_empty {All} {m} {number} = no_row [] (λ k within. absurd (omega (arith, within)))

pub follows_nothing : {All : Type 0} {m : Moment} {text page : List ℕ} → length text ≡ 0 → Gains (FollowsRows All m text) page page
follows_nothing {All} {m} {text} {page} none = record {
  bytes = text;
  shows = part_follows text (λ k within. absurd (omega (arith, within, none)));
  added = sym (append-nil page) ∙ ap (λ (t : List ℕ). page ++ t) (sym (nil_from_length text none));
}
