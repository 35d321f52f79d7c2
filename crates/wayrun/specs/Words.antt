-- The words for what is seen.
use Rattle.std.specs.Prelude.{ℕ, List, codes}
use Rattle.wayrun.specs.declared.see.See.TheVariants.{End, Prints, Trace}
use Rattle.wayrun.specs.declared.see.See.{See}

abbrev pub see_text : See → List ℕ
see_text End = codes "end"
see_text Prints = codes "prints"
see_text Trace = codes "trace"
