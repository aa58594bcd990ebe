mod TableLaws
