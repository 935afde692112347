-- The greatest number of four bytes is no limit on the names of an info stream.
use Rattle.std.proofs.Common.{◌-◌, ◌^◌, List, ℕ, arith}
use Rattle.show_commands.specs.Info.{RefusesInfo, RefusesInfoWithin, ShowsInfo, ShowsInfoWithin}
use Rattle.show_commands.specs.declared.fault.RunFault.{RunFault}
use Rattle.show_commands.specs.declared.fault.RunFault.TheVariants.{TooLong}

pub shows_unlimited : (file text : List ℕ) → ShowsInfoWithin (2 ^ 32 - 1) file text → ShowsInfo file text
shows_unlimited file text (info, has, short, lines) = (info, has, lines)

pub refuses_unlimited : {A : Type 0} (file : List ℕ) (fault : RunFault A) → RefusesInfoWithin (2 ^ 32 - 1) file fault → RefusesInfo file fault
refuses_unlimited file TooLong (info, has, long) = absurd (omega (arith, long.limited))
refuses_unlimited file fault refused = refused
