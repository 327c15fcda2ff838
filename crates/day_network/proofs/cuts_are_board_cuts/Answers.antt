use Rattle.day_network.proofs.Cuts.{board_cut, network_cut}
use Rattle.day_network.proofs.cuts_are_board_cuts.Goals as goal

pub returns : goal.returns
returns c = record { board = board_cut; network = network_cut }
