use Rattle.kc_lasting_laws.proofs.Showing.{looks_over, read_shows, view_finds, view_over}
use Rattle.kc_lasting_laws.proofs.laws.what_was_shown_stands_in_the_one_history.Goals as goal

pub returns-clause-read : goal.returns-clause-read
returns-clause-read c = λ z y lines k number part had s l r front eras at ended stands lt known. read_shows z y lines k part front eras at ended number had s stands l r lt known

pub returns-clause-view : goal.returns-clause-view
returns-clause-view c = λ z y lines k number part had s x u f front eras at ended stands below once keeps. view_finds z y lines k part front eras at ended number had s stands x u f below once keeps

pub returns-clause-handle_reads : goal.returns-clause-handle_reads
returns-clause-handle_reads c = looks_over

pub returns-clause-handle_views : goal.returns-clause-handle_views
returns-clause-handle_views c = λ z x d e f once below over. view_over z d e over x.caller f below once
