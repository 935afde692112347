-- The checks of an info stream, one part after the other.
use Rattle.std.proofs.Common.{◌≡◌, ℕ, List, Some, None, ◌∙◌}
use Rattle.byte_fields.specs.Check.{first_failing, checks_below}
use Rattle.byte_fields.proofs.CheckLaws.{first_failing-append_none, first_failing-append_some}
use Rattle.pdb_info.specs.Header.{info_header_checks}
use Rattle.pdb_info.specs.Names.{map_checks, pair_checks, size_of}
use Rattle.pdb_info.specs.Info.{info_checks}
use Rattle.pdb_info.specs.declared.fault.InfoFault.{InfoFault}

-- a fault of the header is the fault of the stream
pub header_fault : (stream : List ℕ) (fault : InfoFault) → first_failing (info_header_checks stream) ≡ Some fault → first_failing (info_checks stream) ≡ Some fault
unfolding info_checks
header_fault stream fault e = first_failing-append_some (info_header_checks stream) _ fault e

-- after a header without a fault, a fault of the map is the fault of the stream
pub map_fault : (stream : List ℕ) (fault : InfoFault) → first_failing (info_header_checks stream) ≡ None → first_failing (map_checks stream) ≡ Some fault → first_failing (info_checks stream) ≡ Some fault
unfolding info_checks
map_fault stream fault a e = first_failing-append_none (info_header_checks stream) _ a ∙ first_failing-append_some (map_checks stream) _ fault e

-- after these, the first fault of the stream is the first fault of its pairs
pub pairs_answer : (stream : List ℕ) → first_failing (info_header_checks stream) ≡ None → first_failing (map_checks stream) ≡ None
    → first_failing (info_checks stream) ≡ first_failing (checks_below (size_of stream) (pair_checks stream))
unfolding info_checks
pairs_answer stream a b = first_failing-append_none (info_header_checks stream) _ a ∙ first_failing-append_none (map_checks stream) _ b
