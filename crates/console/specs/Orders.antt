-- Orders of a script.
use Rattle.std.specs.Prelude.{Some, None, Option}
use Rattle.script.specs.declared.command.Command.{Command}
use Rattle.console.specs.declared.order.Order.{Order}
use Rattle.console.specs.declared.order.Order.TheVariants.{Port, Run, Peek}

-- the command that an order has for the port
abbrev pub port_command : Order → Option Command
port_command (Port c) = Some c
port_command (Run b) = None
port_command (Peek i) = None
