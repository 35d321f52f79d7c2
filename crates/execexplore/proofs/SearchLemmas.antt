-- Why a search is not answered: what its failures are, and that none of them has the status of a text.
use Rattle.std.specs.Prelude.{⊤, ◌⊎◌}
use Rattle.std.specs.Global.{Vec}
use Rattle.std.proofs.Common.{◌≡◌, ◌∙◌, ℕ, Bool, true, false, List, Option, Some, Bor, inl, inr, refl, subst, sym}
use Rattle.ways.specs.{declared.fault.SearchFault.SearchFault, declared.visiting.Window.Window}
use Rattle.ways.specs.declared.fault.SearchFault.TheVariants as search
use Rattle.wayrun.specs.declared.see.See.{See}
use Rattle.execrun.specs.{Running.Held, Texts.TextAt}
use Rattle.execexplore.specs.Answering.{AnswersSearch, Does, DoesAsked, FailsAsked, IsOfSearch, IsUnwritten, NamesPart, Writes, WritesAPart, WritesFound, WritesFront, WritesPart, WritesSearch, WritesSome, WritesSum, of_search, skip_in, status_by}
use Rattle.execexplore.specs.{Asking.IsFromOne, Asking.IsOfWords, Failing.IsUnread, Failing.status_of, Fitting.IsFront, Framing.FailsTexts, Framing.FramesTexts, Summing.IsOfSum, Summing.SumsTexts}
use Rattle.execexplore.specs.{declared.command_line.Asked.Asked, declared.failure.Failure.Failure, declared.frame.Frame.Frame, declared.options.Options.Options, declared.stretch.Stretch.Stretch, declared.whole.Answer.Answer, declared.whole.Paths.Paths}
use Rattle.execexplore.specs.declared.command_line.Asked.TheVariants.{Search, Sum}
use Rattle.execexplore.specs.declared.command_line.Refusal.TheVariants.{Command}
use Rattle.execexplore.specs.declared.failure.Failure.TheVariants as failure

of_fault : (fault : SearchFault) → IsOfSearch (of_search fault)
of_fault search.OutOfMemory = tt
of_fault search.TooManyOutcomes = tt
of_fault (search.TooMuch ways) = tt
of_fault search.TooManyTicks = tt

pub by_fault : (fault : SearchFault) (why : Failure) → why ≡ of_search fault → IsOfSearch why
by_fault fault why is = rw is (of_fault fault)

pub by_memory : (why : Failure) → why ≡ failure.NoMemory → IsOfSearch why
by_memory why is = rw is tt

-- no failure of a search ends with the status of a text
pub not_of_text : (why : Failure) → IsOfSearch why → ¬ (status_of why ≡ 1)
not_of_text failure.NoMemory is = λ same. cc
not_of_text failure.TooManyOutcomes is = λ same. cc
not_of_text (failure.TooMuch ways) is = λ same. cc
not_of_text (failure.TooManyTicks ticks) is = λ same. cc
not_of_text (failure.NoOutcome number outcomes) is = λ same. cc
not_of_text other is = absurd is

-- what cannot be read has another status
unread_status : (IsPath : Bor (List ℕ) → Type 0) (why : Failure) → IsUnread IsPath why → ¬ (status_of why ≡ 1)
unread_status IsPath failure.NoMemory is = λ same. cc
unread_status IsPath (failure.CannotRead path reason) is = λ same. cc
unread_status IsPath other is = absurd is

-- a text is refused if the status is that of a text
pub refused_text : (IsPath : Bor (List ℕ) → Type 0) (text_at : TextAt) (paths : Paths) (of : Option (Bor (List ℕ))) (why : Failure)
    → IsUnread IsPath why ⊎ FailsTexts text_at paths of why → status_of why ≡ 1 → FailsTexts text_at paths of why
refused_text IsPath text_at paths of why (inl unread) is = absurd (unread_status IsPath why unread is)
refused_text IsPath text_at paths of why (inr fails) is = fails

-- ---- a part in the place of what was asked for

module _ (see : See) (ways : Option Stretch) (events : Option ℕ) (frame : Frame) (before after : Held) where
  pub found_of : (answer : Answer) (status : ℕ) → AnswersSearch see ways events frame answer → Writes answer before after status
      → WritesFound see ways events frame before after status
  found_of answer status answers writes = record { answer = answer; answers = answers; writes = writes }

  pub part_of_search : (part : Stretch) (why : Failure) → IsOfSearch why → WritesPart see ways events frame before after part why
  part_of_search part failure.NoMemory is = tt
  part_of_search part failure.TooManyOutcomes is = tt
  part_of_search part (failure.TooMuch tried) is = tt
  part_of_search part (failure.TooManyTicks ticks) is = tt
  part_of_search part (failure.NoOutcome number outcomes) is = tt
  part_of_search part other is = absurd is

  pub front_of_search : (why : Failure) → IsOfSearch why → WritesFront see ways events frame before after why
  front_of_search failure.NoMemory is = tt
  front_of_search failure.TooManyOutcomes is = tt
  front_of_search (failure.TooMuch tried) is = tt
  front_of_search (failure.TooManyTicks ticks) is = tt
  front_of_search (failure.NoOutcome number outcomes) is = tt
  front_of_search other is = absurd is

  -- a part begins where what was asked for begins
  front_of_part : (part : Stretch) (why : Failure) → skip_in frame (Some part) ≡ skip_in frame ways → WritesPart see (Some part) events frame before after part why
      → WritesFront see ways events frame before after why
  front_of_part part (failure.IsPart named) begins writes =
      subst (λ (p : Stretch). (skip_in frame (Some p) ≡ skip_in frame ways) × WritesSome see (Some p) events frame before after) (sym writes.0) (begins, writes.1)
  front_of_part part failure.WriteFailed begins writes = tt
  front_of_part part failure.NoMemory begins writes = tt
  front_of_part part failure.TooManyOutcomes begins writes = tt
  front_of_part part (failure.TooMuch tried) begins writes = tt
  front_of_part part (failure.TooManyTicks ticks) begins writes = tt
  front_of_part part (failure.NoOutcome number outcomes) begins writes = tt
  front_of_part part other begins writes = absurd writes

  pub front_written : (window : Window) (most : ℕ) (part : Stretch) (why : Failure) (sees : See) (named : Option Stretch) (numbers : Option ℕ)
      → window.skip ≡ skip_in frame ways → IsFront frame.ways window most part → sees ≡ see → named ≡ Some part → numbers ≡ events
      → WritesPart sees named numbers frame before after part why → WritesFront see ways events frame before after why
  front_written window most part why sees named numbers skip front see-is part-is events-is writes =
      let same : WritesPart see (Some part) events frame before after part why = rw (see-is, part-is, events-is) at writes in
      front_of_part part why (front.begins ∙ skip) same

-- ---- why what was asked for was not done

module _ (text_at : TextAt) (before after : Held) where
  -- a failure that is not of a text and names no part
  plain : (why : Failure) → ¬ (status_of why ≡ 1) → NamesPart text_at before after why → FailsAsked text_at before after why
  plain why other part = record { refused = λ is. absurd (other is); part = part }

  names_none : (IsPath : Bor (List ℕ) → Type 0) (paths : Paths) (of : Option (Bor (List ℕ))) (why : Failure)
      → IsUnread IsPath why ⊎ FailsTexts text_at paths of why → NamesPart text_at before after why
  names_none IsPath paths of (failure.IsPart part) (inl unread) = absurd unread
  names_none IsPath paths of (failure.IsPart part) (inr fails) = absurd fails.fails
  names_none IsPath paths of other fails = tt

  pub fails_by_text : (IsPath : Bor (List ℕ) → Type 0) (paths : Paths) (of : Option (Bor (List ℕ))) (why : Failure)
      → IsUnread IsPath why ⊎ FailsTexts text_at paths of why → FailsAsked text_at before after why
  fails_by_text IsPath paths of why fails = record {
    refused = λ is. record { paths = paths; of = of; why = why; status_is = is; fails = refused_text IsPath text_at paths of why fails is };
    part = names_none IsPath paths of why fails;
  }

  pub fails_by_search : (paths : Paths) (options : Options) (frame : Frame) (why : Failure) → FramesTexts text_at paths options frame
      → WritesFront options.see options.part options.events frame before after why → FailsAsked text_at before after why
  fails_by_search paths options frame (failure.IsPart part) frames front = record {
    refused = λ is. cc;
    part = record { paths = paths; options = options; frame = frame; frames = frames; begins = front.0; writes = front.1 };
  }
  fails_by_search paths options frame failure.WriteFailed frames front = plain failure.WriteFailed (λ is. cc) tt
  fails_by_search paths options frame failure.NoMemory frames front = plain failure.NoMemory (λ is. cc) tt
  fails_by_search paths options frame failure.TooManyOutcomes frames front = plain failure.TooManyOutcomes (λ is. cc) tt
  fails_by_search paths options frame (failure.TooMuch ways) frames front = plain (failure.TooMuch ways) (λ is. cc) tt
  fails_by_search paths options frame (failure.TooManyTicks ticks) frames front = plain (failure.TooManyTicks ticks) (λ is. cc) tt
  fails_by_search paths options frame (failure.NoOutcome number outcomes) frames front = plain (failure.NoOutcome number outcomes) (λ is. cc) tt
  fails_by_search paths options frame other frames front = absurd front

  pub fails_by_sum : (why : Failure) → IsOfSum why → FailsAsked text_at before after why
  fails_by_sum failure.NoMemory is = plain failure.NoMemory (λ is. cc) tt
  fails_by_sum (failure.CannotRead path reason) is = plain (failure.CannotRead path reason) (λ is. cc) tt
  fails_by_sum (failure.NotAReport fault path) is = plain (failure.NotAReport fault path) (λ is. cc) tt
  fails_by_sum (failure.NoSum fault path) is = plain (failure.NoSum fault path) (λ is. cc) tt
  fails_by_sum other is = absurd is

  pub fails_by_writing : FailsAsked text_at before after failure.WriteFailed
  fails_by_writing = plain failure.WriteFailed (λ is. cc) tt

  -- ---- what was done

  pub sum_of : (paths : List (Bor (List ℕ))) (answer : Answer) (status : ℕ) → SumsTexts text_at paths answer → Writes answer before after status
      → WritesSum text_at paths before after status
  sum_of paths answer status sums writes = record { answer = answer; sums = sums; writes = writes }

  pub does_search : (paths : Paths) (options : Options) (status : ℕ) → IsFromOne options.events → WritesSearch text_at paths options before after status
      → DoesAsked text_at before after status
  does_search paths options status range does = record { asked = Search paths options; ranges = range; does = does }

  pub does_sum : (paths : Vec (Bor (List ℕ))) (status : ℕ) → WritesSum text_at paths.items before after status → DoesAsked text_at before after status
  does_sum paths status does = record { asked = Sum paths; ranges = tt; does = does }

  by_mixed : (is_mixed : Bool) (status : ℕ) → status ≡ status_by is_mixed → (status ≡ 0) ⊎ (status ≡ 3)
  by_mixed true status is = inr is
  by_mixed false status is = inl is

  within_of : (asked : Asked) (status : ℕ) → Does text_at asked before after status → (status ≡ 0) ⊎ (status ≡ 3)
  within_of (Search paths options) status does = by_mixed does.found.answer.is_mixed status does.found.writes.status_is
  within_of (Sum paths) status does = by_mixed does.answer.is_mixed status does.writes.status_is

  pub does_within : (status : ℕ) → DoesAsked text_at before after status → (status ≡ 0) ⊎ (status ≡ 3)
  does_within status does = within_of does.asked status does.does

  pub does_no_1 : {P : Type 0} (status : ℕ) → DoesAsked text_at before after status → status ≡ 1 → P
  does_no_1 status does is = elim (does_within status does) [
    | inl zero ↦ cc
    | inr three ↦ cc
  ]

  pub does_no_2 : {P : Type 0} (status : ℕ) → DoesAsked text_at before after status → status ≡ 2 → P
  does_no_2 status does is = elim (does_within status does) [
    | inl zero ↦ cc
    | inr three ↦ cc
  ]

  pub does_at : (status other : ℕ) → DoesAsked text_at before after status → status ≡ other → DoesAsked text_at before after other
  does_at status other does same = subst (λ (n : ℕ). DoesAsked text_at before after n) same does

  pub part_at : {P : Type 0} (why : Failure) → status_of why ≡ 2 → FailsAsked text_at before after why → (IsUnwritten why → P)
      → P ⊎ WritesAPart text_at before after
  part_at (failure.IsPart part) is fails keeps = inr (part, fails.part)
  part_at failure.WriteFailed is fails keeps = cc
  part_at other is fails keeps = inl (keeps tt)

pub text_unwritten : (why : Failure) → status_of why ≡ 1 → IsUnwritten why
text_unwritten (failure.IsPart part) is = cc
text_unwritten failure.WriteFailed is = cc
text_unwritten other is = tt

-- words that are refused end with 2, or with 4 if memory was refused
pub words_end : (why : Failure) → IsOfWords (Command why) → (status_of why ≡ 2) ⊎ (status_of why ≡ 4)
words_end failure.NoMemory is = inr refl
words_end (failure.Option sentence) is = inl refl
words_end other is = absurd is

-- a failure has one of three statuses
pub fails_no_0 : {P : Type 0} (n : ℕ) → (n ≡ 1) ⊎ ((n ≡ 2) ⊎ (n ≡ 4)) → n ≡ 0 → P
fails_no_0 n (inl one) is = cc
fails_no_0 n (inr (inl two)) is = cc
fails_no_0 n (inr (inr four)) is = cc

pub fails_no_3 : {P : Type 0} (n : ℕ) → (n ≡ 1) ⊎ ((n ≡ 2) ⊎ (n ≡ 4)) → n ≡ 3 → P
fails_no_3 n (inl one) is = cc
fails_no_3 n (inr (inl two)) is = cc
fails_no_3 n (inr (inr four)) is = cc
