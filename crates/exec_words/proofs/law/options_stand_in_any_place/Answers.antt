use Rattle.exec_words.proofs.Spelled.{spellings, places}
use Rattle.exec_words.proofs.law.options_stand_in_any_place.Goals as goal

pub returns-clause-spellings : goal.returns-clause-spellings
returns-clause-spellings c = spellings

pub returns-clause-places : goal.returns-clause-places
returns-clause-places c = places
