-- The lines of an info stream.
use Rattle.std.specs.Prelude.{ℕ, List, [], ◌∷◌, ◌++◌, codes}
use Rattle.std.specs.Fmt.{decimal}
use Rattle.uuid.specs.Text.{hyphenated_text, lower}
use Rattle.pdb_info.specs.Header.{HeaderFields}
use Rattle.pdb_info.specs.Names.{NamedStream}
use Rattle.output_words.specs.Text.{index_text, quoted, named_line}

-- the line of the signature
unfoldable pub signature_line : ℕ → List ℕ
signature_line signature = codes "signature " ++ index_text signature ++ 10 ∷ []

-- the line of the GUID, in lower case with hyphens
unfoldable pub guid_line : List ℕ → List ℕ
guid_line guid = codes "guid " ++ hyphenated_text lower guid ++ 10 ∷ []

-- the lines of the header
unfoldable pub header_lines : HeaderFields → List ℕ
header_lines header =
    named_line (codes "version") header.version
    ++ signature_line header.signature
    ++ named_line (codes "age") header.age
    ++ guid_line header.guid

-- the line of a named stream
unfoldable pub name_line : NamedStream → List ℕ
name_line name = codes "name " ++ quoted name.text ++ 32 ∷ decimal name.stream ++ 10 ∷ []

-- the line of a feature code
abbrev pub feature_line : ℕ → List ℕ
feature_line feature = named_line (codes "feature") feature
