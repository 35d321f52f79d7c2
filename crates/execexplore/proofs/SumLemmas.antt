-- What is read at the paths of reports.
use Rattle.std.proofs.Common.{◌≡◌, ◌<◌, ◌≤◌, ◌∙◌, ℕ, zero, suc, ◌+◌, add-one, get_or, List, [], ◌∷◌, ◌++◌, length, min, take, Option, None, Some, IfSome, option_map, ap₂, Bor, arith, sym, subst, refl}
use Rattle.std.specs.Prelude.{⊤}
use Rattle.std.proofs.lemmas.List.{length-take, take_all}
use Rattle.wayreport.specs.declared.report.Report.{Report}
use Rattle.execrun.specs.Texts.{Opens, TextAt}
use Rattle.execrun.specs.declared.unread.TextFault.{TextFault}
use Rattle.execrun.specs.declared.unread.TextFault.TheVariants as text
use Rattle.execexplore.specs.{Failing.of_text, Summing.AreAt, Summing.IsAt, Summing.IsOfSum, declared.failure.Failure.Failure}
use Rattle.execexplore.specs.declared.failure.Failure.TheVariants as failure

-- what is reported of a text is what a reader has before it
pub read_front : (told remaining : Option (List ℕ)) (bytes : List ℕ) → Opens told remaining → IfSome remaining (λ all. bytes ≡ take 268435457 all)
    → IfSome told (λ all. bytes ≡ take 268435457 all)
read_front None remaining bytes opens read = tt
read_front (Some all) remaining bytes opens read = rw opens at read

-- what is read up to a limit is the front of what is there
pub front_of : (known : Option (List ℕ)) (limit : ℕ) (old new : List ℕ) → limit ≡ 268435457 → old ≡ [] → IfSome (option_map (take limit) known) (λ xs. new ≡ old ++ xs)
    → IfSome known (λ all. new ≡ take 268435457 all)
front_of None limit old new most empty read = tt
front_of (Some all) limit old new most empty read = read ∙ ap₂ (λ (xs : List ℕ) (n : ℕ). xs ++ take n all) empty most

-- a front that is shorter than was asked for is the whole
front_is_whole : (n : ℕ) (all : List ℕ) → length (take (n + 1) all) ≤ n → take (n + 1) all ≡ all
front_is_whole n all short = let few : length all ≤ n = grind (arith, length-take (n + 1) all) in take_all (n + 1) all (omega arith)

-- a report of no more bytes than a report may have is all that is at its path
pub whole_text : (told : Option (List ℕ)) (bytes all_of_it : List ℕ) → IfSome told (λ all. bytes ≡ take 268435457 all) → length bytes ≤ 268435456
    → all_of_it ≡ bytes → IfSome told (λ all. all_of_it ≡ all)
whole_text None bytes all_of_it front short same = tt
whole_text (Some all) bytes all_of_it front short same =
    let few : length (take 268435457 all) ≤ 268435456 = subst (λ (xs : List ℕ). length xs ≤ 268435456) front short in
    same ∙ (front ∙ front_is_whole 268435456 all few)

pub unread_text : (path : Bor (List ℕ)) (fault : TextFault) → IsOfSum (of_text path fault)
unread_text path text.NoMemory = tt
unread_text path (text.CannotRead why) = tt

pub sum_by_memory : (why : Failure) → why ≡ failure.NoMemory → IsOfSum why
sum_by_memory why is = rw is tt

-- one report more
one_at : (text_at : TextAt) (paths : List (Bor (List ℕ))) (i : ℕ) (d : Bor (List ℕ)) (reports : List Report) (report : Report) → i < length paths
    → AreAt text_at (take i paths) reports → IsAt text_at (get_or paths i d).now report → AreAt text_at (take (suc i) paths) (reports ++ report ∷ [])
one_at text_at [] i d reports report below are is = absurd (omega arith)
one_at text_at (p ∷ ps) zero d [] report below are is = (is, tt)
one_at text_at (p ∷ ps) zero d (r ∷ rs) report below are is = absurd are
one_at text_at (p ∷ ps) (suc i) d [] report below are is = absurd are
one_at text_at (p ∷ ps) (suc i) d (r ∷ rs) report below are is = (are.0, one_at text_at ps i d rs report (omega arith) are.1 is)

pub next_at : (text_at : TextAt) (paths : List (Bor (List ℕ))) (i : ℕ) (d : Bor (List ℕ)) (reports : List Report) (report : Report) → i < length paths
    → AreAt text_at (take i paths) reports → IsAt text_at (get_or paths i d).now report → AreAt text_at (take (i + 1) paths) (reports ++ report ∷ [])
next_at text_at paths i d reports report below are is = rw add-one (one_at text_at paths i d reports report below are is)
