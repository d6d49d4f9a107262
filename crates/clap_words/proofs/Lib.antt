mod NamesRead
