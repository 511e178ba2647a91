-- How many elements the arrays of a document have in all.
use Rattle.std.proofs.Common.{ℕ, ◌+◌}
use Rattle.toml.specs.Data.{Data, array, table, Items, no_items, item, Members, no_members, member}
use Rattle.toml.specs.Tables.{Node, Nodes, no_nodes, node, value, open_table, open_array}

abbrev mutual
  pub size : Data → ℕ
  size (array ds) = items_size ds
  size (table ms) = members_size ms
  size _ = 0

  pub items_size : Items → ℕ
  items_size no_items = 0
  items_size (item d ds) = 1 + size d + items_size ds

  pub members_size : Members → ℕ
  members_size no_members = 0
  members_size (member k d ms) = size d + members_size ms

-- and those of the nodes that a document is made from
abbrev mutual
  pub node_size : Node → ℕ
  node_size (value d) = size d
  node_size (open_table origin ns) = nodes_size ns
  node_size (open_array done last) = items_size done + (1 + nodes_size last)

  pub nodes_size : Nodes → ℕ
  nodes_size no_nodes = 0
  nodes_size (node k x ns) = node_size x + nodes_size ns
