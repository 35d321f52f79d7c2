-- The first of the faults of two places, one after the other.
use Rattle.std.proofs.Common.{◌≡◌, List, [], ◌∷◌, ◌++◌, Some, None, option_map, refl, sym, ap, ◌∙◌, append_assoc}
use Rattle.taskscript.specs.{declared.fault.FileFault.FileFault, declared.place.Place.Place, declared.refused.Refused.Refused, Faults.IsFirst, Faults.IsFirstOfLine, Places.at, Places.refused}
use Rattle.execlist.specs.Order.{first}

pub first_none : {F : Type 0} (a b : List F) → first a ≡ None → first (a ++ b) ≡ first b
first_none [] b h = refl
first_none (f ∷ a) b h = absurd cc

pub first_some : {F : Type 0} (a b : List F) (f : F) → first a ≡ Some f → first (a ++ b) ≡ Some f
first_some [] b f h = absurd cc
first_some (g ∷ a) b f h = h

pub first_left : {F : Type 0} (a b : List F) → first (a ++ b) ≡ None → first a ≡ None
first_left [] b h = refl
first_left (f ∷ a) b h = absurd cc

pub first_right : {F : Type 0} (a b : List F) → first (a ++ b) ≡ None → first b ≡ None
first_right [] b h = h
first_right (f ∷ a) b h = absurd cc

-- the first fault of what follows a place without faults
pub skip : (a b : List Refused) (f : Refused) → first a ≡ None → IsFirst f b → IsFirst f (a ++ b)
skip a b f none is ne = first_none a b none ∙ is ne

-- two places without faults
pub both : {F : Type 0} (a b : List F) → first a ≡ None → first b ≡ None → first (a ++ b) ≡ None
both a b none last = first_none a b none ∙ last

-- the first fault of two places, with a third one after them
pub before_third : (a b c : List FileFault) (f : FileFault) → IsFirstOfLine f (a ++ b) → IsFirstOfLine f (a ++ (b ++ c))
before_third a b c f is ne = ap first (sym (append_assoc a b c)) ∙ first_some (a ++ b) c f (is ne)

-- a third place, after two without faults
pub third : (a b c : List FileFault) (f : FileFault) → first (a ++ b) ≡ None → IsFirstOfLine f c → IsFirstOfLine f (a ++ (b ++ c))
third a b c f none is ne = ap first (sym (append_assoc a b c)) ∙ first_none (a ++ b) c none ∙ is ne

-- the first fault of one place
pub at_some : (p : Place) (fs : List FileFault) (f : FileFault) → first fs ≡ Some f → first (at p fs) ≡ Some (refused p f)
at_some p [] f h = absurd cc
at_some p (g ∷ fs) f h = ap (option_map (refused p)) h

pub at_none : (p : Place) (fs : List FileFault) → first fs ≡ None → first (at p fs) ≡ None
at_none p [] h = refl
at_none p (g ∷ fs) h = absurd cc

pub none_at : (p : Place) (fs : List FileFault) → first (at p fs) ≡ None → first fs ≡ None
none_at p [] h = refl
none_at p (g ∷ fs) h = absurd cc
