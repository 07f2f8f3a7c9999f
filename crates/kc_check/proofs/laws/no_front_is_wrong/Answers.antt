use Rattle.kc_check.proofs.Fronts.{not_out_of_turn, not_waiting, not_replying_else}
use Rattle.kc_check.proofs.laws.no_front_is_wrong.Goals as goal

pub returns-clause-turn : goal.returns-clause-turn
returns-clause-turn c limit threads replies first front back p stand stand2 now now2 records others comes also = not_out_of_turn limit threads replies first front p back stand now records comes stand2 now2 others also

pub returns-clause-waits : goal.returns-clause-waits
returns-clause-waits c limit threads replies first front back p stand stand2 now now2 records others comes also = not_waiting limit threads replies first front p back stand now records comes stand2 now2 others also

pub returns-clause-reply : goal.returns-clause-reply
returns-clause-reply c limit threads replies first front back p stand stand2 now now2 records others comes also = not_replying_else limit threads replies first front p back stand now records comes stand2 now2 others also
