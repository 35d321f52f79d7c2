-- When a memory that was used is as large as that of a file.
use Rattle.std.specs.Prelude.{◌≡◌, ℕ, List}
use Rattle.memlist.specs.declared.region.Region.{Region}
use Rattle.script.specs.File.{LibraryData}
use Rattle.execmodel.specs.State.{Memory}

-- it has these regions, room for that many objects of each kind and for that many tasks, and these libraries
pub record IsAsLarge (all : List Region) (objects waiting : ℕ) (known : List LibraryData) (m : Memory) : Type 0 where
  pub regions : m.regions ≡ all
  pub pool : m.pool ≡ objects
  pub tasks : m.tasks ≡ waiting
  pub libraries : m.libraries ≡ known
