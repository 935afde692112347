-- Containers: files with their layouts.
use Rattle.std.specs.Prelude.{ℕ, List}
use Rattle.msf_blocks.specs.Layout.{LayoutView}

-- contracts see a container as the bytes of its file and the layout of these
pub record ContainerView : Type 0 where
  pub file : List ℕ
  pub layout : LayoutView
