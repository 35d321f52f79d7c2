-- The lines of commands, as bodies and files are read one part after another.
use Rattle.std.proofs.Common.{◌≡◌, ℕ, ◌+◌, ◌<◌, List, [], ◌∷◌, ◌++◌, length, get_or, drop, Option, Some, None, append_assoc, sym, ap, ◌∙◌, refl, append-nil}
use Rattle.std.specs.List.{cons_option}
use Rattle.toml.specs.declared.value.Value.{Value}
use Rattle.toml.specs.View.{view, items_view}
use Rattle.toml.specs.Data.{Items, Members}
use Rattle.taskscript.specs.{Bodies.Reading, Bodies.nothing_read, Bodies.reading_after, Code.shared_after, File.code_lines, File.shared_after_bodies, File.shared_after_servers, File.shared_after_softints, File.servers_in, File.softints_in, File.tasks_in, File.with_bodies, Listings.BodyListingData, Listings.body_listing, Listings.command_lines, Listings.command_lines_from, Listings.listing_of, Listings.number_said, Listings.owner_listing, Meaning.line_meaning}
use Rattle.taskscript.proofs.{BodyReading.body_read, OwnerTurns.next_item}

-- ---- one line more

one_more : (before : List ℕ) (o : Option ℕ) (rest : List ℕ) → before ++ cons_option o rest ≡ (before ++ cons_option o []) ++ rest
one_more before None rest = ap (λ (ns : List ℕ). ns ++ rest) (sym (append-nil before))
one_more before (Some n) rest = sym (append_assoc before (n ∷ []) rest)

pub lines_go_on : (i : ℕ) (before after : List ℕ) (line : List ℕ) (left others : List (List ℕ)) → left ≡ line ∷ others → after ≡ before ++ cons_option (number_said i (line_meaning line)) []
    → before ++ command_lines_from i left ≡ after ++ command_lines_from (i + 1) others
lines_go_on i before after line left others is more =
    ap (λ (ls : List (List ℕ)). before ++ command_lines_from i ls) is
    ∙ one_more before (number_said i (line_meaning line)) (command_lines_from (i + 1) others)
    ∙ ap (λ (ns : List ℕ). ns ++ command_lines_from (i + 1) others) (sym more)

-- ---- a whole body

abbrev listing : List ℕ → List (List ℕ) → BodyListingData
listing lines private = record { lines = lines; private = private }

pub body_listed : (shared lines : List (List ℕ)) (q : Reading) (numbers : List ℕ) → q ≡ reading_after (nothing_read shared) lines → numbers ≡ command_lines lines
    → listing numbers q.names.private ≡ body_listing shared lines
body_listed shared lines q numbers read is =
    ap (λ (ns : List ℕ). listing ns q.names.private) is ∙ ap (λ (p : Reading). listing (command_lines lines) p.names.private) (body_read shared lines q read)

-- ---- one body more, and all of them

pub listings_found : (shared more : List (List ℕ)) (bs : List BodyListingData) (b : BodyListingData) (vs : List Value) (i : ℕ) (v : Value) → i < length vs → v ≡ get_or vs i v
    → more ≡ shared_after shared (code_lines (view v)) → b ≡ owner_listing shared (view v)
    → bs ++ with_bodies owner_listing shared (items_view (drop i vs)) ≡ (bs ++ b ∷ []) ++ with_bodies owner_listing more (items_view (drop (i + 1) vs))
listings_found shared more bs b vs i v lt is after same =
    let rest = with_bodies owner_listing more (items_view (drop (i + 1) vs)) in
    ap (λ (ds : Items). bs ++ with_bodies owner_listing shared ds) (next_item vs i v lt is)
    ∙ ap (λ (names : List (List ℕ)). bs ++ (owner_listing shared (view v) ∷ with_bodies owner_listing names (items_view (drop (i + 1) vs)))) (sym after)
    ∙ ap (λ (c : BodyListingData). bs ++ (c ∷ rest)) (sym same)
    ∙ sym (append_assoc bs (b ∷ []) rest)

pub listing_is : (softints servers tasks : List BodyListingData) (shared : List (List ℕ)) (t : Members)
    → softints ≡ with_bodies owner_listing [] (softints_in t) → servers ≡ with_bodies owner_listing (shared_after_softints t) (servers_in t)
    → tasks ≡ with_bodies owner_listing (shared_after_servers t) (tasks_in t) → shared ≡ shared_after_bodies (shared_after_servers t) (tasks_in t)
    → record { softints = softints; servers = servers; tasks = tasks; shared = shared } ≡ listing_of t
listing_is softints servers tasks shared t p q r s = rw (p, q, r, s) refl
