-- The four orders are visible ones.
use Rattle.laws.proofs.Orders.{orders_visible_lem}
use Rattle.laws.proofs.orders_visible.Goals as goal

pub returns : goal.returns
returns c = orders_visible_lem
