-- What a handle owns: nothing at null, and a box of its session else.
use base.Fml.{Fml, ftrue, ffalse}
use base.Stored.{Coded}
use denote.RawPtr.{Ptr, block_ptr, null_ptr}
use Rattle.std.specs.declared.option.Option.TheVariants.{None, Some}
use Rattle.std.specs.{Box.Ownership.box_owns, Coded.coded_option, Global.Global, contracts.impls.GlobalAllocator.TheImpl.ghosts, declared.option.Option.Option}
use Rattle.execsim_c.specs.contracts.session.Session.{the_row}

abbrev pub Kept : Type 0
Kept = Option the_row.Denot

abbrev pub kept_coded : Coded Kept
kept_coded = coded_option the_row.coded

abbrev pub held : Global → Ptr → Kept → Fml
held a null_ptr None = ftrue
held a null_ptr (Some s) = ffalse
held a (block_ptr b o) None = ffalse
held a (block_ptr b o) (Some s) = box_owns (ghosts.dealloc_token a) the_row (block_ptr b o) s
