-- What the fields of the words mean.
use Rattle.exec_life.specs.declared.words.Words.TheInside.{Inside}
use Rattle.exec_life.specs.WordLists.{WordLists}

-- the lists that the fields are
abbrev pub words_of : Inside → WordLists
words_of w =
    record {
      nodes = w.nodes;
      blocks = w.blocks.items;
      control = w.control;
      callback = w.callback;
      source = w.source;
      scope_source = w.scope_source;
      scope = w.scope;
    }
