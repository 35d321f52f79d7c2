-- The lines below the head of a report, and the outcomes that they make.
use Rattle.std.proofs.Common.{◌≡◌, ◌∙◌, ℕ, zero, suc, ◌+◌, ◌<◌, ◌≤◌, ◌==◌, Bool, true, false, if◌then◌else◌, List, [], ◌∷◌, ◌++◌, length, codes, decimal, map, flat_map, ap, sym, refl, arith, append_assoc, append-nil, subst, string_bytes, ◌^◌, None, MatchBool, get_or}
use Rattle.std.specs.{List.AllByRecursion, List.fold, List.starts_with, Str.Pattern.FindsTextPrefix, Str.Pattern.HasPrefixMatch}
use lib.Dec.{eqb}
use Rattle.std.proofs.lemmas.{List.length-append, List.map-append, Str.Pattern.starts_text}
use Rattle.ways.specs.Tables.{Entry}
use Rattle.wayreport.specs.{Reports.entries_text, Reports.entry_line, Reports.entry_text, Reports.found_view, Reports.indented, Reports.ways_text, declared.report.Found.Found}
use Rattle.wayreport.specs.Written.{ArePlaced, IsBelow, IsLine, IsOneLine, IsWrittenEntry, Line, Make, blank, ended, heading, lacks, line_text, lines_text, shown, with_line, with_seen}
use Rattle.wayreport.proofs.{Cutting.lacks-append, Wording.feed_other, Wording.lacks-decimal, Wording.lacks-ways}

abbrev Entries : Type 0
Entries = List (Entry (List ℕ))

-- ---- each line is one

pub one_line : (line : Line) → IsLine line → IsOneLine (line_text line)
one_line blank h = refl
one_line (heading number count first) h =
    lacks-append 10 (decimal number) (codes ": " ++ (ways_text count ++ (codes ", first " ++ first))) (lacks-decimal 10 feed_other number h.0)
    (lacks-append 10 (ways_text count) (codes ", first " ++ first) (lacks-ways 10 feed_other refl refl count h.1) h.2)
one_line (shown text) h = h

-- ---- a line taken off the front

pub at_end : (es found : Entries) (rest : List ℕ) → Make es rest found → length rest ≡ 0 → es ≡ found
at_end es found rest ([], placed, is, folded) none = folded
at_end es found rest (line ∷ left, placed, is, folded) none =
    absurd (omega (arith, none, ap length is, length-append (ended (line_text line)) (lines_text left), length-append (line_text line) (codes "\n")))

pub record Next (es : Entries) (rest : List ℕ) (found : Entries) : Type 0 where
  pub line : Line
  pub left : List Line
  pub good : IsLine line
  pub below : IsBelow es line
  pub placed : ArePlaced (with_line es line) left
  pub is : rest ≡ line_text line ++ (codes "\n" ++ lines_text left)
  pub folded : fold with_line (with_line es line) left ≡ found

pub next_line : (es found : Entries) (rest : List ℕ) → Make es rest found → 0 < length rest → Next es rest found
next_line es found rest ([], placed, is, folded) some = absurd (omega (arith, some, ap length is))
next_line es found rest (line ∷ left, placed, is, folded) some = record {
  line = line;
  left = left;
  good = placed.0;
  below = placed.1;
  placed = placed.2;
  is = is ∙ append_assoc (line_text line) (codes "\n") (lines_text left);
  folded = folded;
}

pub after_line : (es new found : Entries) (rest later : List ℕ) (n : Next es rest found) → new ≡ with_line es n.line → later ≡ lines_text n.left → Make new later found
after_line es new found rest later n grown is =
    (n.left, subst (λ x. ArePlaced x n.left) (sym grown) n.placed, is, ap (λ x. fold with_line x n.left) grown ∙ n.folded)

-- ---- an outcome's last line

pub with_seen_last : (text : List ℕ) (es : Entries) (e : Entry (List ℕ)) → with_seen text (es ++ e ∷ []) ≡ es ++ record { seen = e.seen ++ ended text; count = e.count; first = e.first } ∷ []
with_seen_last text [] e = refl
with_seen_last text (x ∷ []) e = refl
with_seen_last text (x ∷ y ∷ ys) e = ap (λ l. x ∷ l) (with_seen_last text (y ∷ ys) e)

-- ---- the lines of entries

abbrev pub entry : List ℕ → ℕ → List ℕ → Entry (List ℕ)
entry seen count first = record { seen = seen; count = count; first = first }

-- a line after two spaces
indented-line : (begins : Bool) (line rest : List ℕ) → IsOneLine line → indented begins (line ++ (codes "\n" ++ rest)) ≡ (if begins then codes "  " else []) ++ (line ++ (codes "\n" ++ indented true rest))
indented-line begins [] rest one = refl
indented-line begins (b ∷ bs) rest one =
    ap (λ t. (if begins then codes "  " else []) ++ b ∷ t)
    ((elim (b == 10) as (λ x. (if x then false else lacks 10 bs) ≡ true → indented x (bs ++ (codes "\n" ++ rest)) ≡ bs ++ (codes "\n" ++ indented true rest))
    [ true ↦ λ h. absurd cc | false ↦ λ h. indented-line false bs rest h ]) one)

indented-lines : (lines : List (List ℕ)) → AllByRecursion IsOneLine lines → indented true (flat_map ended lines) ≡ lines_text (map shown lines)
indented-lines [] h = refl
indented-lines (line ∷ lines) h =
    ap (indented true) (append_assoc line (codes "\n") (flat_map ended lines))
    ∙ (indented-line true line (flat_map ended lines) h.0
    ∙ (ap (λ t. codes "  " ++ (line ++ (codes "\n" ++ t))) (indented-lines lines h.1)
    ∙ sym (append_assoc (codes "  " ++ line) (codes "\n") (lines_text (map shown lines)))))

lines_text-append : (xs ys : List Line) → lines_text (xs ++ ys) ≡ lines_text xs ++ lines_text ys
lines_text-append [] ys = refl
lines_text-append (x ∷ xs) ys =
    ap (λ t. ended (line_text x) ++ t) (lines_text-append xs ys) ∙ sym (append_assoc (ended (line_text x)) (lines_text xs) (lines_text ys))

-- the lines of entries that are numbered from here, and the empty line after them
layout : ℕ → (es : Entries) → AllByRecursion IsWrittenEntry es → List Line
layout number [] h = blank ∷ []
layout number (e ∷ es) h = blank ∷ heading number e.count e.first ∷ (map shown h.0.seen.lines ++ layout (number + 1) es h.1)

laid : (number : ℕ) (es : Entries) (h : AllByRecursion IsWrittenEntry es) → entries_text number es ++ codes "\n" ≡ lines_text (layout number es h)
unfolding layout
laid number [] h = refl
laid number (e ∷ es) h =
    let lines = h.0.seen.lines in
    let later = layout (number + 1) es h.1 in
    let seen : indented true e.seen ≡ lines_text (map shown lines) = ap (indented true) h.0.seen.is ∙ indented-lines lines h.0.seen.each in
    let over : entry_line number e ≡ codes "\n" ++ ended (line_text (heading number e.count e.first)) =
    sym (ap (λ t. codes "\noutcome " ++ t) (append_assoc (decimal number) (codes ": " ++ (ways_text e.count ++ (codes ", first " ++ e.first))) (codes "\n")
    ∙ ap (λ t. decimal number ++ (codes ": " ++ t)) (append_assoc (ways_text e.count) (codes ", first " ++ e.first) (codes "\n")))) in
    append_assoc (entry_text number e) (entries_text (number + 1) es) (codes "\n")
    ∙ (append_assoc (entry_line number e) (indented true e.seen) (entries_text (number + 1) es ++ codes "\n")
    ∙ (ap (λ t. t ++ (indented true e.seen ++ (entries_text (number + 1) es ++ codes "\n"))) over
    ∙ ap (λ t. codes "\n" ++ (ended (line_text (heading number e.count e.first)) ++ t))
    (ap (λ t. t ++ (entries_text (number + 1) es ++ codes "\n")) seen
    ∙ (ap (λ t. lines_text (map shown lines) ++ t) (laid (number + 1) es h.1) ∙ sym (lines_text-append (map shown lines) later)))))

-- lines of what is seen of the last outcome, and the lines after them
placed-shown : (done : Entries) (e : Entry (List ℕ)) (lines : List (List ℕ)) (more : List Line) → AllByRecursion IsOneLine lines
    → ((f : Entry (List ℕ)) → f ≡ entry (e.seen ++ flat_map ended lines) e.count e.first → ArePlaced (done ++ f ∷ []) more) → ArePlaced (done ++ e ∷ []) (map shown lines ++ more)
placed-shown done e [] more h rest = rest e (ap (λ (s : List ℕ). entry s e.count e.first) (sym (append-nil e.seen)))
placed-shown done e (line ∷ lines) more h rest =
    let grown = entry (e.seen ++ ended line) e.count e.first in (
      h.0,
      omega (arith, length-append done (e ∷ [])),
      subst (λ x. ArePlaced x (map shown lines ++ more)) (sym (with_seen_last line done e))
          (placed-shown done grown lines more h.1 (λ f is. rest f (is ∙ ap (λ (s : List ℕ). entry s e.count e.first) (append_assoc e.seen (ended line) (flat_map ended lines))))),
    )

folded-shown : (done : Entries) (e : Entry (List ℕ)) (lines : List (List ℕ)) (more : List Line)
    → fold with_line (done ++ e ∷ []) (map shown lines ++ more) ≡ fold with_line (done ++ entry (e.seen ++ flat_map ended lines) e.count e.first ∷ []) more
folded-shown done e [] more = ap (λ (s : List ℕ). fold with_line (done ++ entry s e.count e.first ∷ []) more) (sym (append-nil e.seen))
folded-shown done e (line ∷ lines) more =
    ap (λ x. fold with_line x (map shown lines ++ more)) (with_seen_last line done e)
    ∙ (folded-shown done (entry (e.seen ++ ended line) e.count e.first) lines more
    ∙ ap (λ (s : List ℕ). fold with_line (done ++ entry s e.count e.first ∷ []) more) (append_assoc e.seen (ended line) (flat_map ended lines)))

placed-layout : (number : ℕ) (done es : Entries) (h : AllByRecursion IsWrittenEntry es) → number + length es ≤ 2 ^ 64 → ArePlaced done (layout number es h)
unfolding layout
placed-layout number done [] h few = (tt, tt, tt)
placed-layout number done (e ∷ es) h few =
    let small : number < 2 ^ 64 = omega (arith, few) in (
      tt,
      tt,
      (
        (small, h.0.count, h.0.first),
        tt,
        placed-shown done (entry [] e.count e.first) h.0.seen.lines (layout (number + 1) es h.1) h.0.seen.each
            (λ f is. placed-layout (number + 1) (done ++ f ∷ []) es h.1 (omega (arith, few))),
      ),
    )

folded-layout : (number : ℕ) (done es : Entries) (h : AllByRecursion IsWrittenEntry es) → fold with_line done (layout number es h) ≡ done ++ es
unfolding layout
folded-layout number done [] h = sym (append-nil done)
folded-layout number done (e ∷ es) h =
    folded-shown done (entry [] e.count e.first) h.0.seen.lines (layout (number + 1) es h.1)
    ∙ (ap (λ (s : List ℕ). fold with_line (done ++ entry s e.count e.first ∷ []) (layout (number + 1) es h.1)) (sym h.0.seen.is)
    ∙ (folded-layout (number + 1) (done ++ e ∷ []) es h.1 ∙ append_assoc done (e ∷ []) es))

-- the text below the head makes the entries that it is of
pub entries_make : (es : Entries) → AllByRecursion IsWrittenEntry es → length es < 2 ^ 64 → Make [] (entries_text 1 es ++ codes "\n") es
unfolding layout
entries_make es h few = (layout 1 es h, placed-layout 1 [] es h (omega (arith, few)), laid 1 es h, folded-layout 1 [] es h)

-- an outcome taken off, and put back with a line more
pub seen_grown : (old new popped : List Found) (last grown : Found) (text : List ℕ) → old ≡ popped ++ last ∷ [] → new ≡ popped ++ grown ∷ []
    → found_view grown ≡ entry (last.seen.items ++ ended text) last.count (string_bytes last.first) → map found_view new ≡ with_seen text (map found_view old)
seen_grown old new popped last grown text old_is new_is view_is =
    ap (map found_view) new_is
    ∙ (map-append found_view popped (grown ∷ [])
    ∙ (ap (λ (x : Entry (List ℕ)). map found_view popped ++ x ∷ []) view_is
    ∙ sym (ap (λ l. with_seen text (map found_view l)) old_is
    ∙ (ap (with_seen text) (map-append found_view popped (last ∷ [])) ∙ with_seen_last text (map found_view popped) (found_view last)))))

-- ---- which line it is

abbrev is_heading : Line → Bool
is_heading blank = false
is_heading (heading number count first) = true
is_heading (shown text) = false

begins : (said : Line) → starts_with eqb (line_text said) (codes "outcome ") ≡ is_heading said
begins blank = refl
begins (heading number count first) = refl
begins (shown text) = refl

-- what is known of the line after the test of its front
pub tested : (said : Line) (line : List ℕ) (r b : Bool) → MatchBool r (HasPrefixMatch (FindsTextPrefix (codes "outcome ")) line) (FindsTextPrefix (codes "outcome ") line None)
    → line ≡ line_text said → r ≡ b → is_heading said ≡ b
tested said line r b cases is so =
    sym (begins said) ∙ (sym (ap (λ t. starts_with eqb t (codes "outcome ")) is) ∙ (sym (starts_text r (codes "outcome ") line cases) ∙ so))

pub record Heading (said : Line) : Type 0 where
  pub number : ℕ
  pub count : ℕ
  pub first : List ℕ
  pub is : said ≡ heading number count first

pub as_heading : (said : Line) → is_heading said ≡ true → Heading said
as_heading blank h = absurd cc
as_heading (heading number count first) h = record { number = number; count = count; first = first; is = refl }
as_heading (shown text) h = absurd cc

pub record Shown (said : Line) : Type 0 where
  pub text : List ℕ
  pub is : said ≡ shown text

pub as_shown : (said : Line) → is_heading said ≡ false → 0 < length (line_text said) → Shown said
as_shown blank h some = absurd (omega (arith, some))
as_shown (heading number count first) h some = absurd cc
as_shown (shown text) h some = record { text = text; is = refl }

pub as_blank : (said : Line) → is_heading said ≡ false → length (line_text said) ≡ 0 → said ≡ blank
as_blank blank h none = refl
as_blank (heading number count first) h none = absurd cc
as_blank (shown text) h none = absurd (omega (arith, none))

-- an outcome more
pub pushed : (old new : List Found) (one : Found) (said : Line) (h : Heading said) → new ≡ old ++ one ∷ [] → found_view one ≡ entry [] h.count h.first
    → map found_view new ≡ with_line (map found_view old) said
pushed old new one said h new_is view_is =
    ap (map found_view) new_is ∙ (map-append found_view old (one ∷ [])
    ∙ (ap (λ (x : Entry (List ℕ)). map found_view old ++ x ∷ []) view_is ∙ sym (ap (with_line (map found_view old)) h.is)))

-- what is so of each entry is so of that of an outcome
pub entry_at : (found : List Found) (i : ℕ) (one : Found) → i < length found → one ≡ get_or found i one → AllByRecursion IsWrittenEntry (map found_view found) → IsWrittenEntry (found_view one)
entry_at [] i one lt is each = absurd (omega (arith, lt))
entry_at (x ∷ xs) zero one lt is each = subst (λ (f : Found). IsWrittenEntry (found_view f)) (sym is) each.0
entry_at (x ∷ xs) (suc i) one lt is each = entry_at xs i one (omega (arith, lt)) is each.1
