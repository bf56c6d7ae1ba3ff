-- A command as the definitions see it.
use Rattle.sctp_world.specs.declared.command.Command.{Command}
use Rattle.sctp_world.specs.declared.command.Command.TheVariants as commands
use Rattle.sctp_world.specs.Command.{Asked, probe_of, happens, passes, shown}
use Rattle.sctp_network_side.specs.SideView.{action_of, end_tree}

abbrev pub command_of : Command → Asked
command_of (commands.Probe bytes) = probe_of bytes.items
command_of (commands.Event event) = happens (action_of event)
command_of (commands.Time now) = passes now
command_of (commands.Show end packet) = shown (end_tree end) packet
