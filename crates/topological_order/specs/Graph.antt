-- Graphs: for each node the nodes that it names. Nodes are numbered from 0.
use Rattle.std.specs.Prelude.{ℕ, ◌^◌, ◌<◌, List, [], length, get_or}
use Rattle.std.specs.List.{Contains}
use Rattle.packed_texts.specs.PackedTexts.{Rise}

-- node i names node n
abbrev pub Names : List (List ℕ) → ℕ → ℕ → Type 0
Names graph i n = Contains (get_or graph i []) n

-- each node names only nodes of the graph
abbrev pub NamesNodes : List (List ℕ) → Type 0
NamesNodes graph = (i n : ℕ) → Names graph i n → n < length graph

-- each node has a higher rank than those that it names
abbrev pub IsRank : List (List ℕ) → (ℕ → ℕ) → Type 0
IsRank graph rank = (i n : ℕ) → Names graph i n → rank n < rank i

-- a graph is kept in two lists: what its nodes name, one node after the other,
-- and where the part of each ends
pub record IsGraph (named ends : List ℕ) : Type 0 where
  -- each part ends where the next one begins, and the last one at the end of the list
  pub rise : Rise 0 ends (length named)
  -- each end fits in 32 bits
  pub short : length named < 2 ^ 32
  -- so does each node
  pub few : length ends < 2 ^ 32
